-- A message cut into chunks, one chunk after the other.
use Rattle.std.proofs.Common.{◌-◌, ◌≡◌, ℕ, zero, suc, ◌<◌, ◌≤◌, min, List, [], ◌∷◌, ◌++◌, length, take, drop, refl, sym, ap, ◌∙◌, arith, inl, inr, append_assoc, length-drop}
use Rattle.std.specs.List.{flat_map}
use Rattle.std.proofs.lemmas.Bool.{cases_lt}
use Rattle.std.proofs.lemmas.List.{take_all, drop_all}
use Rattle.std.proofs.lemmas.List.Concat.{flat_map-cons}
use Rattle.rds_session.specs.Chunks.{cut_in_chunks, chunk_most, chunk_text, message_in_chunks}

empty_cut : (n : ℕ) (m : List ℕ) → length m ≡ 0 → cut_in_chunks n m ≡ []
empty_cut zero m e = refl
empty_cut (suc n) [] e = refl
empty_cut (suc n) (x ∷ m) e = absurd (omega arith)

cut_again : (n k : ℕ) (m : List ℕ) → length m ≤ n → length m ≤ k → cut_in_chunks n m ≡ cut_in_chunks k m
cut_again zero k m a b = sym (empty_cut k m (omega arith))
cut_again (suc n) zero m a b = empty_cut (suc n) m (omega arith)
cut_again (suc n) (suc k) [] a b = refl
cut_again (suc n) (suc k) (x ∷ m) a b =
    ap (λ (cs : List (List ℕ)). take chunk_most (x ∷ m) ∷ cs)
    (cut_again n k (drop chunk_most (x ∷ m)) (omega (arith, length-drop chunk_most (x ∷ m))) (omega (arith, length-drop chunk_most (x ∷ m))))

-- the first bytes of a list, or all of them
front_to : (n : ℕ) (m : List ℕ) → take (min (length m) n) m ≡ take n m
front_to n m = elim (cases_lt (length m) n) [
  | inl lt ↦ let k : min (length m) n ≡ length m = omega arith in rw (k, take_all (length m) m (omega arith), take_all n m (omega arith)) refl
  | inr le ↦ let k : min (length m) n ≡ n = omega arith in rw k refl
]

back_to : (n : ℕ) (m : List ℕ) → drop (min (length m) n) m ≡ drop n m
back_to n m = elim (cases_lt (length m) n) [
  | inl lt ↦ let k : min (length m) n ≡ length m = omega arith in rw (k, drop_all (length m) m (omega arith), drop_all n m (omega arith)) refl
  | inr le ↦ let k : min (length m) n ≡ n = omega arith in rw k refl
]

cut_step : (m : List ℕ) → 0 < length m → cut_in_chunks (length m) m ≡ take chunk_most m ∷ cut_in_chunks (length (drop chunk_most m)) (drop chunk_most m)
cut_step [] h = absurd (omega arith)
cut_step (x ∷ m) h =
    ap (λ (cs : List (List ℕ)). take chunk_most (x ∷ m) ∷ cs)
    (cut_again (length m) (length (drop chunk_most (x ∷ m))) (drop chunk_most (x ∷ m)) (omega (arith, length-drop chunk_most (x ∷ m))) (omega arith))

abbrev pub chunks_of : List ℕ → List ℕ
chunks_of m = flat_map chunk_text (cut_in_chunks (length m) m)

-- one chunk was written, and then the rest
pub chunk_written : (sent m total : List ℕ) → 0 < length m → sent ++ chunks_of m ≡ total
    → (sent ++ chunk_text (take (min (length m) chunk_most) m)) ++ chunks_of (drop (min (length m) chunk_most) m) ≡ total
chunk_written sent m total h e =
    let step : chunks_of m ≡ chunk_text (take chunk_most m) ++ chunks_of (drop chunk_most m) =
    ap (flat_map chunk_text) (cut_step m h) ∙ flat_map-cons chunk_text (take chunk_most m) (cut_in_chunks (length (drop chunk_most m)) (drop chunk_most m)) in
    rw (front_to chunk_most m, back_to chunk_most m) (append_assoc sent (chunk_text (take chunk_most m)) (chunks_of (drop chunk_most m)) ∙ ap (λ (t : List ℕ). sent ++ t) (sym step) ∙ e)

pub chunk_goes : (sent m total sent-new chunk more : List ℕ) (k : ℕ) → 0 < length m → sent ++ chunks_of m ≡ total → k ≡ min (length m) chunk_most → chunk ≡ take k m → more ≡ drop k m
    → sent-new ≡ sent ++ chunk_text chunk → sent-new ++ chunks_of more ≡ total
chunk_goes sent m total sent-new chunk more k h e k-is chunk-is more-is new-is =
    let chunk-now : chunk ≡ take (min (length m) chunk_most) m = chunk-is ∙ ap (λ (i : ℕ). take i m) k-is in
    let more-now : more ≡ drop (min (length m) chunk_most) m = more-is ∙ ap (λ (i : ℕ). drop i m) k-is in
    ap (λ (t : List ℕ). t ++ chunks_of more) (new-is ∙ ap (λ (t : List ℕ). sent ++ chunk_text t) chunk-now)
    ∙ ap (λ (t : List ℕ). (sent ++ chunk_text (take (min (length m) chunk_most) m)) ++ chunks_of t) more-now
    ∙ chunk_written sent m total h e

-- ---- a message that begins with its type

first_chunk : (kind : ℕ) (body : List ℕ) → take chunk_most (kind ∷ body) ≡ kind ∷ take (chunk_most - 1) body
first_chunk kind body = refl

rest_chunks : (kind : ℕ) (body : List ℕ) → drop chunk_most (kind ∷ body) ≡ drop (chunk_most - 1) body
rest_chunks kind body = refl

-- its first chunk was written, and then the rest with its end
pub message_written : (sent mid new : List ℕ) (kind : ℕ) (body front rest : List ℕ) (k : ℕ) → k ≡ min (length body) (chunk_most - 1) → front ≡ take k body → rest ≡ drop k body
    → mid ≡ sent ++ chunk_text (kind ∷ front) → new ≡ mid ++ message_in_chunks rest → new ≡ sent ++ message_in_chunks (kind ∷ body)
unfolding message_in_chunks
message_written sent mid new kind body front rest k k-is front-is rest-is first then =
    let front-now : kind ∷ front ≡ take chunk_most (kind ∷ body) = ap (λ (t : List ℕ). kind ∷ t) (front-is ∙ ap (λ (i : ℕ). take i body) k-is ∙ front_to (chunk_most - 1) body) ∙ sym (first_chunk kind body) in
    let rest-now : rest ≡ drop chunk_most (kind ∷ body) = rest-is ∙ ap (λ (i : ℕ). drop i body) k-is ∙ back_to (chunk_most - 1) body ∙ sym (rest_chunks kind body) in
    let cut-now : chunks_of (kind ∷ body) ≡ chunk_text (kind ∷ front) ++ chunks_of rest =
    ap (flat_map chunk_text) (cut_step (kind ∷ body) (omega arith)) ∙ flat_map-cons chunk_text (take chunk_most (kind ∷ body)) (cut_in_chunks (length (drop chunk_most (kind ∷ body))) (drop chunk_most (kind ∷ body)))
    ∙ ap (λ (t : List ℕ). chunk_text t ++ chunks_of (drop chunk_most (kind ∷ body))) (sym front-now) ∙ ap (λ (t : List ℕ). chunk_text (kind ∷ front) ++ chunks_of t) (sym rest-now) in
    then ∙ ap (λ (t : List ℕ). t ++ message_in_chunks rest) first ∙ append_assoc sent (chunk_text (kind ∷ front)) (message_in_chunks rest)
    ∙ ap (λ (t : List ℕ). sent ++ t) (sym (append_assoc (chunk_text (kind ∷ front)) (chunks_of rest) (0 ∷ 0 ∷ [])) ∙ ap (λ (t : List ℕ). t ++ 0 ∷ 0 ∷ []) (sym cut-now))
