-- Paths that are percent-encoded.
use Rattle.std.proofs.Common.{◌≡◌, ℕ, Bool, true, false, cond, List, Result, Ok, Err, refl, ap}
use Rattle.std.specs.Str.{IsUtf8, is_utf8}
use Rattle.std.proofs.lemmas.Str.{IsUtf8-from_is_utf8, is_utf8-from_IsUtf8}
use Rattle.percent_encoding.specs.Percent.{percent_decode}
use Rattle.rds_names.specs.declared.fault.Fault.{Fault}
use Rattle.rds_names.specs.declared.fault.Fault.TheVariants.{BadKey}
use Rattle.rds_http.specs.Looks.{path_in}

if_text : List ℕ → Bool → Result (List ℕ) Fault
if_text bytes is = cond is (Ok bytes) (Err BadKey)

is_false : (b : Bool) → (b ≡ true → ⊥) → b ≡ false
is_false true never = absurd (never refl)
is_false false never = refl

-- a text is one
pub text_is_path : (place : List ℕ) → IsUtf8 (percent_decode place) → path_in place ≡ Ok (percent_decode place)
unfolding if_text
text_is_path place is = ap (if_text (percent_decode place)) (is_utf8-from_IsUtf8 (percent_decode place) is)

-- other bytes are none
pub others_are_none : (place : List ℕ) → (IsUtf8 (percent_decode place) → ⊥) → path_in place ≡ Err BadKey
unfolding if_text
others_are_none place never =
    ap (if_text (percent_decode place)) (is_false (is_utf8 (percent_decode place)) (λ is. never (IsUtf8-from_is_utf8 (percent_decode place) is)))
