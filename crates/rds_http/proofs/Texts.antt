-- Texts of several parts, one behind the other.
use Rattle.std.proofs.Common.{◌≡◌, ℕ, ◌+◌, ◌-◌, true, false, bytes_eq, codes, List, ◌∷◌, [], ◌++◌, length, take, drop, sym, ap, ◌∙◌, arith, append_assoc, drop_at, length-append}
use Rattle.std.proofs.lemmas.List.{take_all, take-append-drop}
use Rattle.std.proofs.lemmas.Slice.Eq.{bytes_eq-Decides}
use Rattle.std.proofs.Math.Seq.{take-append_seam}

-- what stands behind a prefix and two bytes more
pub drop-behind : (start : List ℕ) (a b : ℕ) (end : List ℕ) → drop (length start + 2) (start ++ a ∷ b ∷ end) ≡ end
drop-behind start a b end = rw (← append_assoc start (a ∷ b ∷ []) end) (drop_at (start ++ a ∷ b ∷ []) end (length start + 2) (length-append start (a ∷ b ∷ [])))

-- all that stands behind them
pub rest-behind : (text start : List ℕ) (a b : ℕ) (end : List ℕ) → text ≡ start ++ a ∷ b ∷ end
    → take (length text - (length start + 2)) (drop (length start + 2) text) ≡ end
rest-behind text start a b end is =
    rw (is, drop-behind start a b end)
    (take_all (length (start ++ a ∷ b ∷ end) - (length start + 2)) end (omega (arith, length-append start (a ∷ b ∷ end))))

-- the parts of a fault as JSON, one behind the other
pub fault-joined : (number name words : List ℕ)
    → ((codes "{\"fault\":" ++ (number ++ (codes ",\"name\":\"" ++ (name ++ codes "\",\"text\":\"")))) ++ words) ++ codes "\"}"
    ≡ codes "{\"fault\":" ++ (number ++ (codes ",\"name\":\"" ++ (name ++ (codes "\",\"text\":\"" ++ (words ++ codes "\"}")))))
fault-joined number name words = simp append_assoc

-- a text begins with another exactly where that is its front
pub is_behind : (text start rest : List ℕ) → bytes_eq (take (length start) text) start ≡ true → rest ≡ drop (length start) text
    → text ≡ start ++ rest
is_behind text start rest begins is =
    sym (take-append-drop (length start) text)
    ∙ ap (λ front. front ++ drop (length start) text) ((bytes_eq-Decides (take (length start) text) start).0 begins)
    ∙ ap (λ r. start ++ r) (sym is)

pub none_behind : (text start rest : List ℕ) → bytes_eq (take (length start) text) start ≡ false → text ≡ start ++ rest → ⊥
none_behind text start rest other is =
    let begins : take (length start) text ≡ start = ap (take (length start)) is ∙ take-append_seam start rest in
    absurd (cc ((bytes_eq-Decides (take (length start) text) start).1 begins, other))
