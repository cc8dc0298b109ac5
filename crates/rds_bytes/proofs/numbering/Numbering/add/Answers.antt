use Rattle.std.proofs.Common.{◌++◌, ◌∷◌, [], ◌∙◌}
use Rattle.rds_bytes.proofs.numbering.Numbering.add.Goals as goal

pub returns-clause-numbers : goal.returns-clause-numbers
returns-clause-numbers c = c.in_ok-push.ensures.items ∙ (λ i. c.in_ok-number.ensures.numbers i ++ c.in_ok-number.ensures.number i ∷ [])
