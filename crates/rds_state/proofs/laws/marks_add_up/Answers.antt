use Rattle.rds_state.proofs.MarkSums.{mark-live, mark-dead}
use Rattle.rds_state.proofs.laws.marks_add_up.Goals as goal

pub returns-clause-live : goal.returns-clause-live
returns-clause-live c = mark-live

pub returns-clause-dead : goal.returns-clause-dead
returns-clause-dead c = mark-dead
