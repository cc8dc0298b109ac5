use Rattle.std.proofs.Common.{◌≡◌, ◌≤◌, ◌+◌, ◌*◌, length}
use Rattle.rds_counts.specs.Counted.{components}
use Rattle.rds_counts.proofs.rows.numbers_above.Given as goal

abbrev pub invariant-counting : goal.invariant-counting
invariant-counting l = record { is : l.count + length (components l.rest) ≡ length (components l.fn.rows); few : l.count + 2 * length l.rest ≤ 2 * length l.fn.rows }

abbrev pub decreases-counting : goal.decreases-counting
decreases-counting l = length l.rest
