use Rattle.std.proofs.Common.{◌↔◌, length}
use Rattle.rds_counts.specs.Counted.{number}
use Rattle.rds_questions.specs.Lacking.{AreRowsReached}
use Rattle.rds_questions.proofs.reaching.are_rows_reached.Given as goal

-- what is left decides
abbrev pub invariant-comparing : goal.invariant-comparing
invariant-comparing l = AreRowsReached (number l.here) l.fn.rows ↔ AreRowsReached (number l.here) l.rest

abbrev pub decreases-comparing : goal.decreases-comparing
decreases-comparing l = length l.rest
