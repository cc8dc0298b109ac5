use Rattle.rds_journal.proofs.Crashes.{synced_is_read, written_is_read}
use Rattle.rds_journal.proofs.laws.journals_outlast_crashes.Goals as goal

pub returns-clause-synced : goal.returns-clause-synced
returns-clause-synced c = synced_is_read

pub returns-clause-written : goal.returns-clause-written
returns-clause-written c = written_is_read
