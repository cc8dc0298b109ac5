use Rattle.std.proofs.Common.{length}
use Rattle.rds_tree.proofs.Deltas.{IsCutting}
use Rattle.rds_tree.proofs.taking.cut_leaves.Given as goal

abbrev pub invariant-cutting : goal.invariant-cutting
invariant-cutting l = IsCutting l.rows l.rest l.fn.tree l.tree

abbrev pub decreases-cutting : goal.decreases-cutting
decreases-cutting l = length l.rest
