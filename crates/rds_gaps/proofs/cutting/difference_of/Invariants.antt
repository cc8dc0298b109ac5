use Rattle.std.proofs.Common.{◌+◌, length}
use Rattle.rds_gaps.proofs.Cuts.{Cutting}
use Rattle.rds_gaps.proofs.cutting.difference_of.Given as goal

abbrev pub invariant-cutting : goal.invariant-cutting
invariant-cutting l = Cutting l.runs.items l.run l.rest l.right l.fn.left l.fn.right

abbrev pub decreases-cutting : goal.decreases-cutting
decreases-cutting l = length l.rest + length l.right
