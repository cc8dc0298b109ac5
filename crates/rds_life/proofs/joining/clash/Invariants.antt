use Rattle.std.proofs.Common.{◌+◌, length}
use Rattle.rds_life.proofs.Clashes.{IsPast}
use Rattle.rds_life.proofs.joining.clash.Given as goal

abbrev pub invariant-looking : goal.invariant-looking
invariant-looking l = IsPast l.fn.left l.fn.right l.left l.right

abbrev pub decreases-looking : goal.decreases-looking
decreases-looking l = length l.left + length l.right
