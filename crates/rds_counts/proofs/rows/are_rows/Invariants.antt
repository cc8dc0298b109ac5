use Rattle.std.proofs.Common.{◌≡◌, length}
use Rattle.rds_counts.specs.Counted.{rows_fit}
use Rattle.rds_counts.proofs.rows.are_rows.Given as goal

-- what is left decides
abbrev pub invariant-testing : goal.invariant-testing
invariant-testing l = rows_fit l.rest ≡ rows_fit l.fn.rows

abbrev pub decreases-testing : goal.decreases-testing
decreases-testing l = length l.rest
