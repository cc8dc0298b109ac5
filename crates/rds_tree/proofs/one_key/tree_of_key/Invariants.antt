use Rattle.std.proofs.Common.{◌++◌, ◌∷◌, [], length}
use Rattle.rds_tree.proofs.Growing.{IsGrowing}
use Rattle.rds_tree.proofs.one_key.tree_of_key.Given as goal

abbrev pub invariant-adding : goal.invariant-adding
invariant-adding l = IsGrowing (l.above ++ l.key ∷ []) l.fn.rows l.rest l.node

abbrev pub decreases-adding : goal.decreases-adding
decreases-adding l = length l.rest
