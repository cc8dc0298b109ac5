use Rattle.std.proofs.Common.{length}
use Rattle.rds_keep.proofs.FeedSteps.{IsReadSoFar}
use Rattle.rds_keep.proofs.feeds.read_piece.Given as goal

abbrev pub invariant-reading : goal.invariant-reading
invariant-reading g l = IsReadSoFar g.U.Unfinished.finish l.fn.progress l.fn.rest.items l.piece l.reached l.rest.items l.bytes

abbrev pub decreases-reading : goal.decreases-reading
decreases-reading g l = length l.bytes
