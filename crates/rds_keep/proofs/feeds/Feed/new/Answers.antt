use Rattle.rds_keep.proofs.FeedSteps.{stands_by}
use Rattle.rds_keep.proofs.feeds.Feed.new.Goals as goal

pub returns : goal.returns
returns g c = stands_by g.U.Unfinished.finish (g.U.Fed.reader c.args.format c.args.replicas) c.begin.result c.of.result c.begin.ensures c.of.ensures
