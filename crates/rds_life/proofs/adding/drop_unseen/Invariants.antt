use Rattle.std.proofs.Common.{length}
use Rattle.std.specs.FinSet as set
use Rattle.rds_life.proofs.Additions.{IsDropping}
use Rattle.rds_life.proofs.adding.drop_unseen.Given as goal

abbrev pub invariant-dropping : goal.invariant-dropping
invariant-dropping g l = IsDropping (set.contains (g.S.DotSet.contents l.seen)) l.other l.rest l.fn.rows l.rows

abbrev pub decreases-dropping : goal.decreases-dropping
decreases-dropping g l = length l.rest
