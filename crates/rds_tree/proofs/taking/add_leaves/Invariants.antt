use Rattle.std.proofs.Common.{length}
use Rattle.rds_tree.proofs.Deltas.{IsAdding}
use Rattle.rds_tree.proofs.taking.add_leaves.Given as goal

abbrev pub invariant-adding : goal.invariant-adding
invariant-adding l = IsAdding l.rows l.rest l.fn.tree l.tree

abbrev pub decreases-adding : goal.decreases-adding
decreases-adding l = length l.rest
