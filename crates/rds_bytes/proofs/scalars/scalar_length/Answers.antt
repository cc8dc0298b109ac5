use Rattle.std.proofs.Common.{◌≡◌, true, subst, List, ℕ}
use Rattle.std.specs.Str.{is_utf8}
use Rattle.std.proofs.lemmas.Str.{is_utf8-from_IsUtf8}
use Rattle.rds_bytes.proofs.scalars.scalar_length.Goals as goal

pub returns-in-Text-clause-is_scalar : goal.returns-in-Text-clause-is_scalar
returns-in-Text-clause-is_scalar c =
    let utf8 = subst (λ (t : List ℕ). is_utf8 t ≡ true) c.as_str.ensures.text (is_utf8-from_IsUtf8 c.as_str.result.now c.as_str.utf8) in
    rw c.in-Text.is (c.as_str.ensures.within, utf8)
