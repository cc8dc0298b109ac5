use Rattle.std.proofs.Common.{length}
use Rattle.rds_store.proofs.changes.+joined.Given as goal

abbrev pub decreases-joined : goal.decreases-joined
decreases-joined l = length l.deltas.now
