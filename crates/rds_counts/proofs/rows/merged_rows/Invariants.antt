use Rattle.std.proofs.Common.{◌≡◌, ◌+◌, ◌++◌, length}
use Rattle.rds_counts.specs.Drawn.{greatest_rows}
use Rattle.rds_counts.proofs.rows.merged_rows.Given as goal

abbrev pub invariant-joining : goal.invariant-joining
invariant-joining l = l.rows.items ++ greatest_rows l.left l.right ≡ greatest_rows l.fn.left l.fn.right

abbrev pub decreases-joining : goal.decreases-joining
decreases-joining l = length l.left + length l.right
