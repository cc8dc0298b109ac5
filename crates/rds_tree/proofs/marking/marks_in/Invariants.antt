use Rattle.std.proofs.Common.{◌≡◌, length}
use Rattle.std.specs.Prelude.{fold}
use Rattle.rds_state.specs.Mark.{plus}
use Rattle.rds_tree.specs.Marks.{mark_in, marks_in}
use Rattle.rds_tree.proofs.marking.marks_in.Given as goal

-- what is still added ends as all would
abbrev pub invariant-adding : goal.invariant-adding
invariant-adding l = fold (λ m r. plus m (mark_in r.key r.replica l.rows)) l.mark l.rest ≡ marks_in l.rows l.others

abbrev pub decreases-adding : goal.decreases-adding
decreases-adding l = length l.rest
