use Rattle.std.proofs.Common.{◌≡◌, length}
use Rattle.rds_dots.specs.Runs.{runs_of}
use Rattle.rds_dots.specs.RunsAfter.{runs_left}
use Rattle.rds_dots.proofs.questions.same.Given as goal

-- the runs so far are the same: where those that are left are too, all are
abbrev pub invariant-comparing : goal.invariant-comparing
invariant-comparing g l = runs_left l.after (runs_of (g.S.DotSet.contents l.left)) ≡ runs_left l.after (runs_of (g.S.DotSet.contents l.right)) → runs_of (g.S.DotSet.contents l.left) ≡ runs_of (g.S.DotSet.contents l.right)

abbrev pub decreases-comparing : goal.decreases-comparing
decreases-comparing g l = length (runs_left l.after (runs_of (g.S.DotSet.contents l.left)))
