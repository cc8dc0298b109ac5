use Rattle.std.proofs.Common.{◌-◌, length}
use Rattle.rds_gaps.proofs.Places.{Coalescing}
use Rattle.rds_gaps.proofs.inserting.coalesced.Given as goal

abbrev pub invariant-coalescing : goal.invariant-coalescing
invariant-coalescing l = Coalescing l.runs l.from l.fn.run l.to l.whole

abbrev pub decreases-coalescing : goal.decreases-coalescing
decreases-coalescing l = length l.runs - l.to
