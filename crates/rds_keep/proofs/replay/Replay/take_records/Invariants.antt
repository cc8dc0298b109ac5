use Rattle.std.proofs.Common.{length}
use Rattle.rds_keep.proofs.Replaying.{IsTakenSoFar}
use Rattle.rds_keep.proofs.replay.Replay.take_records.Given as goal

abbrev pub invariant-taking : goal.invariant-taking
invariant-taking g l = IsTakenSoFar l.fn.self l.self l.bytes l.rest

abbrev pub decreases-taking : goal.decreases-taking
decreases-taking g l = length l.rest
