use Rattle.rds_feeds.specs.Rows.{width_of}
use Rattle.rds_feeds.proofs.Lists.{listed}
use Rattle.rds_feeds.proofs.listed.rows.Goals as goal

pub returns : goal.returns
returns g c = rw c.new.ensures.items (listed g.R.PartReader.reader c.args.reader (width_of c.args.width))
