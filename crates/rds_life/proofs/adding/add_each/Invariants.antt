use Rattle.std.proofs.Common.{length}
use Rattle.std.specs.FinSet as set
use Rattle.rds_life.proofs.Additions.{IsAdding}
use Rattle.rds_life.proofs.adding.add_each.Given as goal

abbrev pub invariant-adding : goal.invariant-adding
invariant-adding g l = IsAdding (set.contains (g.S.DotSet.contents l.seen)) l.other l.rest l.fn.rows l.rows

abbrev pub decreases-adding : goal.decreases-adding
decreases-adding g l = length l.rest
