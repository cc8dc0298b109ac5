use Rattle.std.proofs.Common.{◌≡◌, length}
use Rattle.rds_counts.specs.Below.{rows_below}
use Rattle.rds_state.proofs.replica.are_rows_below.Given as goal

-- what is left decides
abbrev pub invariant-testing : goal.invariant-testing
invariant-testing l = rows_below l.replicas l.rest ≡ rows_below l.replicas l.fn.rows

abbrev pub decreases-testing : goal.decreases-testing
decreases-testing l = length l.rest
