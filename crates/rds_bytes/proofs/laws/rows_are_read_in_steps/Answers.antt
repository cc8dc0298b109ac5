use Rattle.rds_bytes.proofs.DotRowSteps.{row_in_steps}
use Rattle.rds_bytes.proofs.laws.rows_are_read_in_steps.Goals as goal

pub returns : goal.returns
returns c = row_in_steps
