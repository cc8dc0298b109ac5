use Rattle.std.proofs.Common.{◌≡◌, ◌+◌, ◌++◌, length}
use Rattle.std.specs.FinSet as set
use Rattle.rds_life.specs.Joined.{rows_of_join}
use Rattle.rds_life.proofs.joining.join_rows.Given as goal

-- the rows so far, and those that are left to be joined
abbrev pub invariant-joining : goal.invariant-joining
invariant-joining g l =
    let left_has = set.contains (g.S.DotSet.contents l.left_seen) in
    let right_has = set.contains (g.S.DotSet.contents l.right_seen) in
    l.rows.items ++ rows_of_join left_has right_has l.left l.right ≡ rows_of_join left_has right_has l.fn.left l.fn.right

abbrev pub decreases-joining : goal.decreases-joining
decreases-joining g l = length l.left + length l.right
