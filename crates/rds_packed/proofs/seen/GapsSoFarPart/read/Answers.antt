use Rattle.std.proofs.Common.{arith}
use Rattle.rds_packed.proofs.SeenWithin.{end_first}
use Rattle.rds_packed.proofs.seen.GapsSoFarPart.read.Goals as goal

pub read_gap-requires : goal.read_gap-requires
read_gap-requires g c = omega (arith, end_first c.self.inside.before, c.self.invariant.0, c.self.invariant.1)
