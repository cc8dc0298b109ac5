use Rattle.std.proofs.Common.{◌≡◌, ℕ, List, ◌++◌}
use Rattle.rds_feeds.specs.Rows.{times}
use Rattle.rds_feeds.proofs.many.read_rows.Given as goal

-- what is still read ends as all would
abbrev pub invariant-rows : goal.invariant-rows
invariant-rows g l = (more : List ℕ) → times g.U.Repeating.next l.count l.fn.rows (l.bytes ++ more) ≡ times g.U.Repeating.next l.left l.rows (l.rest ++ more)

abbrev pub decreases-rows : goal.decreases-rows
decreases-rows g l = l.left
