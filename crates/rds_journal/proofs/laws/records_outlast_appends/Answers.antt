use Rattle.rds_journal.proofs.Lasting.{is_appended_to, outlasts}
use Rattle.rds_journal.proofs.laws.records_outlast_appends.Goals as goal

pub returns-clause-appended : goal.returns-clause-appended
returns-clause-appended c = is_appended_to

pub returns-clause-outlast : goal.returns-clause-outlast
returns-clause-outlast c = outlasts
