use Rattle.rds_codec.proofs.ReplicaTests.{made_of_parts, no_replica}
use Rattle.rds_codec.proofs.snapshots.PartsAreSnapshotMakingTuple2OpenedState.make.Goals as goal

pub returns-in-Ok-clause-ok : goal.returns-in-Ok-clause-ok
returns-in-Ok-clause-ok g c =
    let same = c.in-Ok.ensures.ok in
    made_of_parts c.args.whole c.in-Ok.replica c.in-Ok.ensures.exact (same.0, (same.1, same.2))

pub returns-in-Err-clause-err : goal.returns-in-Err-clause-err
returns-in-Err-clause-err g c = no_replica c.args.whole (λ is. c.in-Err.ensures.exact.1 is)
