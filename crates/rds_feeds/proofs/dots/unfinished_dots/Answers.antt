use Rattle.rds_feeds.proofs.DotRows.{dots_read}
use Rattle.rds_feeds.proofs.dots.unfinished_dots.Goals as goal

pub returns : goal.returns
returns g c = rw c.empty.ensures (dots_read c.args.replicas)
