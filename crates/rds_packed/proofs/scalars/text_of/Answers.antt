use Rattle.std.proofs.Common.{◌≡◌, Bool, true, false, refl}
use Rattle.std.specs.Str.{is_utf8}
use Rattle.std.proofs.lemmas.Str.{IsUtf8-from_is_utf8, is_utf8-from_IsUtf8}
use Rattle.rds_packed.proofs.scalars.text_of.Goals as goal

false_by : (b : Bool) → (b ≡ true → ⊥) → b ≡ false
false_by true h = absurd (h refl)
false_by false h = refl

pub returns-in-Ok : goal.returns-in-Ok
returns-in-Ok c = let said = c.in-Ok.ensures.cases in (said.0, is_utf8-from_IsUtf8 c.args.bytes.now said.1)

pub returns-in-Err : goal.returns-in-Err
returns-in-Err c = (refl, false_by (is_utf8 c.args.bytes.now) (λ is. c.in-Err.ensures.cases.0 (IsUtf8-from_is_utf8 c.args.bytes.now is)))
