use Rattle.std.proofs.Common.{◌≡◌, ◌++◌, length}
use Rattle.rds_counts.specs.Counted.{number}
use Rattle.rds_delta.specs.CounterRows.{counter_rows}
use Rattle.rds_delta.proofs.certifying.push_counts.Given as goal

abbrev pub invariant-telling : goal.invariant-telling
invariant-telling l = l.rows.items ++ counter_rows (number l.peer) l.left ≡ l.fn.rows.items ++ counter_rows (number l.peer) l.fn.counts

abbrev pub decreases-telling : goal.decreases-telling
decreases-telling l = length l.left
