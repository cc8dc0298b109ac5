use Rattle.rds_world.proofs.Edits.{edit_is}
use Rattle.rds_world.proofs.laws.edits_are_steps.Goals as goal

pub returns : goal.returns
returns c = edit_is
