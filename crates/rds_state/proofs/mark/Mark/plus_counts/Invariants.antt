use Rattle.std.proofs.Common.{◌≡◌, length}
use Rattle.std.specs.Prelude.{fold}
use Rattle.rds_state.specs.Mark.{plus_count}
use Rattle.rds_state.proofs.mark.Mark.plus_counts.Given as goal

-- what is still added ends as all would
abbrev pub invariant-adding : goal.invariant-adding
invariant-adding l = fold plus_count l.mark l.rows ≡ fold plus_count l.fn.self l.fn.rows

abbrev pub decreases-adding : goal.decreases-adding
decreases-adding l = length l.rows
