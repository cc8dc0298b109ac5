use Rattle.rds_packed.specs.CountSteady.{packed_counters_steady}
use Rattle.rds_packed.proofs.laws.packed_counters_are_steady.Goals as goal

pub returns : goal.returns
returns c = packed_counters_steady
