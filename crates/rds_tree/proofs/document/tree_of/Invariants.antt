use Rattle.std.proofs.Common.{length}
use Rattle.rds_tree.proofs.Growing.{IsGrowing}
use Rattle.rds_tree.proofs.document.tree_of.Given as goal

abbrev pub invariant-adding : goal.invariant-adding
invariant-adding l = IsGrowing l.path l.fn.rows l.rest l.node

abbrev pub decreases-adding : goal.decreases-adding
decreases-adding l = length l.rest
