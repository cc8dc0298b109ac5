use Rattle.rds_recovery.proofs.Outlasting.{none_lost}
use Rattle.rds_recovery.proofs.ReadingOn.{hold_one}
use Rattle.rds_recovery.proofs.laws.acknowledged_changes_are_never_lost.Goals as goal

pub returns-clause-one : goal.returns-clause-one
returns-clause-one c = hold_one

pub returns-clause-lost : goal.returns-clause-lost
returns-clause-lost c = none_lost
