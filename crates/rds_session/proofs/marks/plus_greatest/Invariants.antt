use Rattle.std.proofs.Common.{◌≡◌, ◌+◌, length}
use Rattle.std.specs.Prelude.{fold}
use Rattle.rds_counts.specs.Drawn.{greatest_rows}
use Rattle.rds_state.specs.Mark.{plus_count}
use Rattle.rds_session.proofs.marks.plus_greatest.Given as goal

-- what is still added ends as all would
abbrev pub invariant-joining : goal.invariant-joining
invariant-joining l = fold plus_count l.mark (greatest_rows l.left l.right) ≡ fold plus_count l.fn.mark (greatest_rows l.fn.left l.fn.right)

abbrev pub decreases-joining : goal.decreases-joining
decreases-joining l = length l.left + length l.right
