-- What follows a brief.
use Rattle.std.proofs.Common.{◌≡◌, ◌≢◌, ℕ, ◌<◌, ◌≤◌, Bool, true, false, eqb, List, [], ◌∷◌, ◌++◌, length, sym, ap, ◌∙◌, arith, length-append}
use mathlib.Core.Bool.{false≢true}
use Rattle.std.proofs.lemmas.Bool.{eqb-true}
use Rattle.std.proofs.lemmas.List.{nil_from_length}
use Rattle.rds_codec.specs.declared.limits.TheConstants.{LIMIT}

-- a text above the limit isn't at the front of bytes within it
pub too_long : (bytes text : List ℕ) → length bytes ≤ LIMIT → LIMIT < length text → (rest : List ℕ) → bytes ≢ text ++ rest
too_long bytes text within long rest is = (let all = ap length is ∙ length-append text rest in omega (arith, all, within, long))

-- two rests behind one text are one
pub same_rest : (text a b : List ℕ) → text ++ a ≡ text ++ b → a ≡ b
same_rest [] a b h = h
same_rest (x ∷ text) a b h = same_rest text a b (tails (text ++ a) (text ++ b) h)
  where
    tails : (l m : List ℕ) → x ∷ l ≡ x ∷ m → l ≡ m
    tails l m e = cc

-- ---- what a test for bytes that are left says

pub some_left : (rest : List ℕ) (b : Bool) → b ≡ eqb (length rest) 0 → b ≡ false → rest ≢ []
some_left rest b is h none = false≢true (sym h ∙ is ∙ ap (λ (l : List ℕ). eqb (length l) 0) none)

pub none_left : (rest : List ℕ) (b : Bool) → b ≡ eqb (length rest) 0 → b ≡ true → rest ≡ []
none_left rest b is h = nil_from_length rest (eqb-true _ _ (sym is ∙ h))
