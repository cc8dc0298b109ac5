-- A message that was cut into chunks is scanned whole.
use Rattle.std.proofs.Common.{◌≡◌, ℕ, zero, suc, ◌+◌, ◌-◌, ◌*◌, ◌/◌, ◌%◌, ◌<◌, ◌≤◌, false, eqb, List, [], ◌∷◌, ◌++◌, length, take, drop, refl, ap, ◌∙◌, arith, append_assoc, length-append, inl, inr, length-drop}
use Rattle.std.specs.List.{flat_map, AllByRecursion}
use Rattle.std.proofs.lemmas.Bool.{cases_lt, ne_eqb}
use Rattle.std.proofs.lemmas.List.{append-nil, take-append-drop, length-take}
use Rattle.std.proofs.lemmas.List.Concat.{flat_map-cons}
use Rattle.rds_session.specs.declared.chunks.TheConstants.{MESSAGE_LIMIT}
use Rattle.rds_session.specs.declared.chunks.Place.TheVariants.{First}
use Rattle.rds_session.specs.Chunks.{Whole, Long, start_of_chunks, scan, chunk_text, message_text, chunk_most, cut_in_chunks, message_in_chunks}
use Rattle.rds_session.specs.Stream.{IsChunk, contents_of}
use Rattle.rds_session.proofs.Scans.{at, at-place, scan_run, scan_long}

-- the two bytes of a length
pub high_low : (n : ℕ) → n < 65536 → (n / 256 % 256) * 256 + n % 256 ≡ n
high_low n h = omega arith

scan_length : (c more held : List ℕ) → IsChunk c → scan (chunk_text c ++ more) (at-place First held) ≡ scan (c ++ more) (at (length c) held)
unfolding scan
scan_length c more held h =
    let n = length c in
    let e : (n / 256 % 256) * 256 + n % 256 ≡ n = high_low n h.1 in
    let some : eqb n 0 ≡ false = ne_eqb n 0 (omega (arith, h.0)) in
    rw (e, some) refl

-- a chunk comes within the limit
pub scan_chunk : (c more held : List ℕ) → IsChunk c → length held + length c ≤ MESSAGE_LIMIT → scan (chunk_text c ++ more) (at-place First held) ≡ scan more (at-place First (held ++ c))
scan_chunk c more held h room =
    let none : length c - length c ≡ 0 = omega arith in
    scan_length c more held h ∙ scan_run c more (length c) held (omega arith) room ∙ rw none refl

-- chunks come within the limit
pub scan_chunks : (cs : List (List ℕ)) (more held : List ℕ) → AllByRecursion IsChunk cs → length held + length (contents_of cs) ≤ MESSAGE_LIMIT
    → scan (flat_map chunk_text cs ++ more) (at-place First held) ≡ scan more (at-place First (held ++ contents_of cs))
scan_chunks [] more held h room = rw (append-nil held) refl
scan_chunks (c ∷ cs) more held h room =
    let sum = length-append c (contents_of cs) in
    let one : flat_map chunk_text (c ∷ cs) ++ more ≡ chunk_text c ++ (flat_map chunk_text cs ++ more) =
    ap (λ (t : List ℕ). t ++ more) (flat_map-cons chunk_text c cs) ∙ append_assoc (chunk_text c) (flat_map chunk_text cs) more in
    ap (λ (t : List ℕ). scan t (at-place First held)) one
    ∙ scan_chunk c (flat_map chunk_text cs ++ more) held h.0 (omega (arith, sum))
    ∙ scan_chunks cs more (held ++ c) h.1 (omega (arith, sum, length-append held c))
    ∙ ap (λ (t : List ℕ). scan more (at-place First t)) (append_assoc held c (contents_of cs))

scan_end : (more held : List ℕ) → scan (0 ∷ 0 ∷ more) (at-place First held) ≡ Whole held more
unfolding scan
scan_end more held = refl

-- a message comes, in any chunks
pub scan_message : (cs : List (List ℕ)) (more : List ℕ) → AllByRecursion IsChunk cs → length (contents_of cs) ≤ MESSAGE_LIMIT → scan (message_text cs ++ more) start_of_chunks ≡ Whole (contents_of cs) more
scan_message cs more h room =
    ap (λ (t : List ℕ). scan t start_of_chunks) (append_assoc (flat_map chunk_text cs) (0 ∷ 0 ∷ []) more)
    ∙ scan_chunks cs (0 ∷ 0 ∷ more) [] h (omega arith) ∙ scan_end more (contents_of cs)

-- a message that passes the limit, in any chunks
pub scan_message_long : (cs : List (List ℕ)) (more held : List ℕ) → AllByRecursion IsChunk cs → length held ≤ MESSAGE_LIMIT → MESSAGE_LIMIT < length held + length (contents_of cs)
    → scan (flat_map chunk_text cs ++ more) (at-place First held) ≡ Long
scan_message_long [] more held h fits long = absurd (omega arith)
scan_message_long (c ∷ cs) more held h fits long =
    let sum = length-append c (contents_of cs) in
    let one : flat_map chunk_text (c ∷ cs) ++ more ≡ chunk_text c ++ (flat_map chunk_text cs ++ more) =
    ap (λ (t : List ℕ). t ++ more) (flat_map-cons chunk_text c cs) ∙ append_assoc (chunk_text c) (flat_map chunk_text cs) more in
    ap (λ (t : List ℕ). scan t (at-place First held)) one
    ∙ elim (cases_lt MESSAGE_LIMIT (length held + length c)) [
      | inl over ↦ scan_length c (flat_map chunk_text cs ++ more) held h.0 ∙ scan_long c (flat_map chunk_text cs ++ more) (length c) held (omega arith) fits over
      | inr room ↦ scan_chunk c (flat_map chunk_text cs ++ more) held h.0 room
          ∙ scan_message_long cs more (held ++ c) h.1 (omega (arith, length-append held c)) (omega (arith, sum, length-append held c))
    ]

-- ---- the sender's own cutting

cut_chunks : (n : ℕ) (m : List ℕ) → AllByRecursion IsChunk (cut_in_chunks n m)
cut_chunks zero m = tt
cut_chunks (suc n) [] = tt
cut_chunks (suc n) (b ∷ m) = ((omega (arith, length-take chunk_most (b ∷ m)), omega (arith, length-take chunk_most (b ∷ m))), cut_chunks n (drop chunk_most (b ∷ m)))

cut_joined : (n : ℕ) (m : List ℕ) → length m ≤ n → contents_of (cut_in_chunks n m) ≡ m
cut_joined zero [] h = refl
cut_joined zero (b ∷ m) h = absurd (omega arith)
cut_joined (suc n) [] h = refl
cut_joined (suc n) (b ∷ m) h =
    let rest = cut_joined n (drop chunk_most (b ∷ m)) (omega (arith, length-drop chunk_most (b ∷ m))) in
    ap (λ (t : List ℕ). take chunk_most (b ∷ m) ++ t) rest ∙ take-append-drop chunk_most (b ∷ m)

pub scan_spelled : (m more : List ℕ) → length m ≤ MESSAGE_LIMIT → scan (message_in_chunks m ++ more) start_of_chunks ≡ Whole m more
unfolding message_in_chunks
scan_spelled m more room =
    let j = cut_joined (length m) m (omega arith) in
    scan_message (cut_in_chunks (length m) m) more (cut_chunks (length m) m) (omega (arith, ap length j)) ∙ ap (λ (t : List ℕ). Whole t more) j
