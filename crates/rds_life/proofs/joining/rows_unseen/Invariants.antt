use Rattle.std.proofs.Common.{◌≡◌, ◌++◌, length}
use Rattle.std.specs.FinSet as set
use Rattle.rds_life.specs.Joined.{outside}
use Rattle.rds_life.proofs.joining.rows_unseen.Given as goal

abbrev pub invariant-copying : goal.invariant-copying
invariant-copying g l =
    let has = set.contains (g.S.DotSet.contents l.seen) in
    l.copies.items ++ outside has l.rest ≡ outside has l.rows

abbrev pub decreases-copying : goal.decreases-copying
decreases-copying g l = length l.rest
