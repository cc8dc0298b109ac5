-- The lines of bytes that have their newline.
use Rattle.std.proofs.Common.{◌≡◌, ◌⊎◌, ℕ, ◌<◌, Bool, true, false, cond, eqb, List, [], ◌∷◌, ◌++◌, length, refl, sym, ap, ◌∙◌, append_assoc, arith, inl, inr}
use Rattle.std.proofs.lemmas.Bool.{eqb-true}
use Rattle.rds_lines.specs.Lines.{IsOneLine, after_line, ended_lines, until_newline, lines_in, line_with_byte}
use Rattle.rds_lines.specs.Lines.{with_byte_in}

-- the first line, and the lines after it
first_at : (t : Bool) (b : ℕ) (bytes : List ℕ) → (0 < length bytes → lines_in bytes ≡ until_newline bytes ∷ lines_in (after_line bytes))
    → cond t ([] ∷ lines_in bytes) (line_with_byte b (lines_in bytes)) ≡ cond t [] (b ∷ until_newline bytes) ∷ lines_in (cond t bytes (after_line bytes))
first_at true b bytes h = refl
first_at false b [] h = refl
first_at false b (c ∷ bytes) h = ap (line_with_byte b) (h (omega arith))

pub lines_first : (bytes : List ℕ) → 0 < length bytes → lines_in bytes ≡ until_newline bytes ∷ lines_in (after_line bytes)
lines_first [] lt = absurd (omega (arith, lt))
lines_first (b ∷ bytes) lt = first_at (eqb b 10) b bytes (lines_first bytes)

-- bytes have a newline after their first line, or are one line
pub halves : (bytes : List ℕ) → (bytes ≡ until_newline bytes ++ 10 ∷ after_line bytes) ⊎ ((until_newline bytes ≡ bytes) × (after_line bytes ≡ []))
halves [] = inr (refl, refl)
halves (b ∷ bytes) = at_byte (eqb b 10) refl (halves bytes)
  where
    at_byte : (t : Bool) → eqb b 10 ≡ t → (bytes ≡ until_newline bytes ++ 10 ∷ after_line bytes) ⊎ ((until_newline bytes ≡ bytes) × (after_line bytes ≡ []))
        → (b ∷ bytes ≡ cond t [] (b ∷ until_newline bytes) ++ 10 ∷ cond t bytes (after_line bytes)) ⊎ ((cond t [] (b ∷ until_newline bytes) ≡ b ∷ bytes) × (cond t bytes (after_line bytes) ≡ []))
    at_byte true e h = inl (ap (λ (n : ℕ). n ∷ bytes) (eqb-true b 10 e))
    at_byte false e h = elim h [
      | inl split ↦ inl (ap (λ (l : List ℕ). b ∷ l) split)
      | inr whole ↦ inr (ap (λ (l : List ℕ). b ∷ l) whole.0, whole.1)
    ]

-- a line with its newline is the first line
pub line_before : (line rest : List ℕ) → IsOneLine line → lines_in (line ++ 10 ∷ rest) ≡ line ∷ lines_in rest
line_before [] rest one = refl
line_before (b ∷ line) rest one = at_byte (eqb b 10) one (line_before line rest)
  where
    at_byte : (t : Bool) → cond t [] (b ∷ until_newline line) ≡ b ∷ line → (IsOneLine line → lines_in (line ++ 10 ∷ rest) ≡ line ∷ lines_in rest)
        → cond t ([] ∷ lines_in (line ++ 10 ∷ rest)) (line_with_byte b (lines_in (line ++ 10 ∷ rest))) ≡ (b ∷ line) ∷ lines_in rest
    at_byte true one h = absurd cc
    at_byte false one h = let tail : until_newline line ≡ line = cc in ap (line_with_byte b) (h tail)

pub ended_before : (line rest : List ℕ) → IsOneLine line → ended_lines (line ++ 10 ∷ rest) ≡ line ∷ ended_lines rest
ended_before [] rest one = refl
ended_before (b ∷ line) rest one = at_byte (eqb b 10) one (ended_before line rest)
  where
    at_byte : (t : Bool) → cond t [] (b ∷ until_newline line) ≡ b ∷ line → (IsOneLine line → ended_lines (line ++ 10 ∷ rest) ≡ line ∷ ended_lines rest)
        → cond t ([] ∷ ended_lines (line ++ 10 ∷ rest)) (with_byte_in b (ended_lines (line ++ 10 ∷ rest))) ≡ (b ∷ line) ∷ ended_lines rest
    at_byte true one h = absurd cc
    at_byte false one h = let tail : until_newline line ≡ line = cc in ap (with_byte_in b) (h tail)

-- a piece has none
pub ended_none : (piece : List ℕ) → IsOneLine piece → ended_lines piece ≡ []
ended_none [] one = refl
ended_none (b ∷ piece) one = at_byte (eqb b 10) one (ended_none piece)
  where
    at_byte : (t : Bool) → cond t [] (b ∷ until_newline piece) ≡ b ∷ piece → (IsOneLine piece → ended_lines piece ≡ []) → cond t ([] ∷ ended_lines piece) (with_byte_in b (ended_lines piece)) ≡ []
    at_byte true one h = absurd cc
    at_byte false one h = let tail : until_newline piece ≡ piece = cc in ap (with_byte_in b) (h tail)

-- these bytes are these lines, each with its newline
pub record AreEnded (lines : List (List ℕ)) (bytes : List ℕ) : Type 0 where
  pub whole : (rest : List ℕ) → lines_in (bytes ++ rest) ≡ lines ++ lines_in rest
  pub ended : (rest : List ℕ) → ended_lines (bytes ++ rest) ≡ lines ++ ended_lines rest

pub none_ended : AreEnded [] []
none_ended = record { whole = λ rest. refl; ended = λ rest. refl }

-- one line more
pub one_more_ended : (lines : List (List ℕ)) (bytes line : List ℕ) → AreEnded lines bytes → IsOneLine line → AreEnded (lines ++ line ∷ []) (bytes ++ (line ++ 10 ∷ []))
one_more_ended lines bytes line e one = record {
  whole = λ rest. ap lines_in (joined rest) ∙ e.whole (line ++ 10 ∷ rest) ∙ ap (λ (ls : List (List ℕ)). lines ++ ls) (line_before line rest one) ∙ sym (append_assoc lines (line ∷ []) (lines_in rest));
  ended = λ rest. ap ended_lines (joined rest) ∙ e.ended (line ++ 10 ∷ rest) ∙ ap (λ (ls : List (List ℕ)). lines ++ ls) (ended_before line rest one) ∙ sym (append_assoc lines (line ∷ []) (ended_lines rest));
}
  where
    joined : (rest : List ℕ) → (bytes ++ (line ++ 10 ∷ [])) ++ rest ≡ bytes ++ (line ++ 10 ∷ rest)
    joined rest = append_assoc bytes (line ++ 10 ∷ []) rest ∙ ap (λ (l : List ℕ). bytes ++ l) (append_assoc line (10 ∷ []) rest)

-- and a last line without a newline
pub last_line : (lines : List (List ℕ)) (bytes line : List ℕ) → AreEnded lines bytes → 0 < length line → IsOneLine line → after_line line ≡ [] → lines ++ line ∷ [] ≡ lines_in (bytes ++ line)
last_line lines bytes line e lt one none =
    sym (e.whole line ∙ ap (λ (ls : List (List ℕ)). lines ++ ls) (lines_first line lt ∙ ap (λ (l : List ℕ). l ∷ lines_in (after_line line)) one ∙ ap (λ (r : List ℕ). line ∷ lines_in r) none))
