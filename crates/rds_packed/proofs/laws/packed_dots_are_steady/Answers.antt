use Rattle.rds_packed.specs.SeenSteady.{packed_dots_steady}
use Rattle.rds_packed.proofs.laws.packed_dots_are_steady.Goals as goal

pub returns : goal.returns
returns c = packed_dots_steady
