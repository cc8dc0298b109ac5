use Rattle.std.proofs.Common.{◌+◌, length}
use Rattle.rds_gaps.proofs.Unions.{Merging}
use Rattle.rds_gaps.proofs.merging.union_of.Given as goal

abbrev pub invariant-merging : goal.invariant-merging
invariant-merging l = Merging l.runs.items l.left l.right l.fn.left l.fn.right

abbrev pub decreases-merging : goal.decreases-merging
decreases-merging l = length l.left + length l.right
