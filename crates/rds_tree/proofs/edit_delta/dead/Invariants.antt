use Rattle.std.proofs.Common.{length}
use Rattle.rds_tree.proofs.FoundLives.{IsKilling}
use Rattle.rds_tree.proofs.edit_delta.dead.Given as goal

abbrev pub invariant-killing : goal.invariant-killing
invariant-killing g l = IsKilling l.dots l.rest l.lives

abbrev pub decreases-killing : goal.decreases-killing
decreases-killing g l = length l.rest
