use Rattle.std.proofs.Common.{◌≡◌, ◌↔◌, length}
use Rattle.rds_counts.specs.Counted.{number}
use Rattle.rds_delta.specs.CounterRows.{AreAbove, counter_rows}
use Rattle.rds_delta.proofs.checking.counts_claimed.Given as goal

-- what is left decides
abbrev pub invariant-claiming : goal.invariant-claiming
invariant-claiming l = (AreAbove (number l.peer) l.fn.counts × (l.fn.rows ≡ counter_rows (number l.peer) l.fn.counts)) ↔ (AreAbove (number l.peer) l.left × (l.rest ≡ counter_rows (number l.peer) l.left))

abbrev pub decreases-claiming : goal.decreases-claiming
decreases-claiming l = length l.left
