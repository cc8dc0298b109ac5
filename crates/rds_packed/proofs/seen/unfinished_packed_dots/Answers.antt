use Rattle.rds_packed.proofs.SeenRead.{dots_read}
use Rattle.rds_packed.proofs.seen.unfinished_packed_dots.Goals as goal

pub returns : goal.returns
returns g c = rw c.empty.ensures (dots_read c.args.replicas _ c.unfinished_packed.ensures)
