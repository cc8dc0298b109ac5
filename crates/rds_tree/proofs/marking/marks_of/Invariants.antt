use Rattle.std.proofs.Common.{◌≡◌, length}
use Rattle.std.specs.Prelude.{fold}
use Rattle.rds_state.specs.Mark.{plus_live}
use Rattle.rds_tree.specs.Marks.{marks_of}
use Rattle.rds_tree.proofs.marking.marks_of.Given as goal

-- what is still added ends as all would
abbrev pub invariant-adding : goal.invariant-adding
invariant-adding l = fold plus_live l.mark l.rest ≡ marks_of l.rows

abbrev pub decreases-adding : goal.decreases-adding
decreases-adding l = length l.rest
