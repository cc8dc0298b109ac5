use Rattle.std.proofs.Common.{◌≡◌, ◌++◌, length}
use Rattle.rds_tree.specs.Taken.{rows_unseen}
use Rattle.rds_tree.proofs.taking.rows_unseen.Given as goal

abbrev pub invariant-looking : goal.invariant-looking
invariant-looking g l = l.copies.items ++ rows_unseen l.lives l.rest ≡ rows_unseen l.lives l.fn.rows

abbrev pub decreases-looking : goal.decreases-looking
decreases-looking g l = length l.rest
