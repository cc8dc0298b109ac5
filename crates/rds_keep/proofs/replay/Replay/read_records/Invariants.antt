use Rattle.std.proofs.Common.{◌+◌, ◌*◌, length}
use Rattle.rds_keep.proofs.Replaying.{IsReadSoFar}
use Rattle.rds_keep.proofs.replay.Replay.read_records.Given as goal

abbrev pub invariant-reading : goal.invariant-reading
invariant-reading g l = IsReadSoFar g.R.Read.remaining l.fn.self l.self l.fn.reader l.reader l.fn.behind.items l.held.items

abbrev pub decreases-reading : goal.decreases-reading
decreases-reading g l = 65537 * l.reader.left + length l.held.items
