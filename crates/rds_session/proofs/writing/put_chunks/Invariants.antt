use Rattle.std.proofs.Common.{◌≡◌, ◌++◌, length}
use Rattle.rds_session.proofs.Cutting.{chunks_of}
use Rattle.rds_session.proofs.writing.put_chunks.Given as goal

abbrev pub invariant-loop-rest : goal.invariant-loop-rest
invariant-loop-rest l = l.send.items ++ chunks_of l.rest ≡ l.initial.send.items ++ chunks_of l.initial.rest

abbrev pub decreases-loop-rest : goal.decreases-loop-rest
decreases-loop-rest l = length l.rest
