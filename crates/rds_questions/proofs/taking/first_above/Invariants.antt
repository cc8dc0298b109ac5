use Rattle.std.proofs.Common.{◌≡◌, length}
use Rattle.rds_counts.specs.Counted.{number}
use Rattle.rds_state.specs.RowsAhead.{rows_ahead}
use Rattle.rds_questions.proofs.taking.first_above.Given as goal

-- what is left decides
abbrev pub invariant-looking : goal.invariant-looking
invariant-looking l = rows_ahead (number l.counts) l.own l.rest ≡ rows_ahead (number l.counts) l.own l.fn.rows

abbrev pub decreases-looking : goal.decreases-looking
decreases-looking l = length l.rest
