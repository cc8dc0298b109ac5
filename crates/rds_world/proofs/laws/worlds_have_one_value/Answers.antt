use Rattle.rds_world.proofs.Values.{one_value}
use Rattle.rds_world.proofs.laws.worlds_have_one_value.Goals as goal

pub returns : goal.returns
returns c = one_value
