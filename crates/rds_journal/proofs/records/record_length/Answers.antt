use Rattle.std.proofs.Common.{ℕ, ◌+◌, ◌∙◌, ap}
use Rattle.rds_journal.specs.declared.records.TheConstants.{HEAD}
use Rattle.rds_journal.proofs.Format.{length_record}
use Rattle.rds_journal.proofs.records.record_length.Goals as goal

pub returns-clause-text : goal.returns-clause-text
returns-clause-text c r is = length_record r ∙ ap (λ (n : ℕ). n + HEAD) is
