use Rattle.rds_world.proofs.OneResult.{one_step}
use Rattle.rds_world.proofs.laws.a_step_has_one_result.Goals as goal

pub returns : goal.returns
returns c = one_step
