use Rattle.std.proofs.Common.{◌≡◌, ◌∙◌, ap, sym, true, subst, List, ℕ}
use Rattle.std.proofs.lemmas.Str.{is_utf8-from_IsUtf8}
use Rattle.std.specs.Str.{is_utf8}
use Rattle.rds_names.specs.Forms.{bytes_in}
use Rattle.rds_names.proofs.key.Key.as_bytes.Goals as goal

-- a shared text is a text
pub returns-in-Shared-clause-utf8 : goal.returns-in-Shared-clause-utf8
returns-in-Shared-clause-utf8 c =
    subst (λ (bs : List ℕ). is_utf8 bs ≡ true) (c.as_str.ensures.value ∙ sym (ap bytes_in c.in-Shared.is) ∙ c.self.view_is) (is_utf8-from_IsUtf8 c.as_str.result.now c.as_str.utf8)
