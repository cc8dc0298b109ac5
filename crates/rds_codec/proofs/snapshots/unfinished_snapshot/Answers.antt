use Rattle.rds_codec.proofs.ReadSnapshots.{snapshot_in_read}
use Rattle.rds_codec.proofs.snapshots.unfinished_snapshot.Goals as goal

pub returns : goal.returns
returns g c = λ bytes. snapshot_in_read bytes
