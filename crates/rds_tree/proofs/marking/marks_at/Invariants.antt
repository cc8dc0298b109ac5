use Rattle.std.proofs.Common.{◌≡◌, length}
use Rattle.std.specs.FinMap as map
use Rattle.std.specs.Prelude.{fold}
use Rattle.rds_life.specs.Life.{entry_of}
use Rattle.rds_state.specs.Mark.{plus}
use Rattle.rds_tree.specs.Marks.{mark_at, marks_at}
use Rattle.rds_tree.proofs.marking.marks_at.Given as goal

-- what is still added ends as all would
abbrev pub invariant-adding : goal.invariant-adding
invariant-adding g l = fold (λ m d. plus m (mark_at d (entry_of (map.get l.lives d)))) l.mark l.rest ≡ marks_at l.lives l.dots

abbrev pub decreases-adding : goal.decreases-adding
decreases-adding g l = length l.rest
