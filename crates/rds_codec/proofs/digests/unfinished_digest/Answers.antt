use Rattle.rds_codec.proofs.Parts.{digest_read}
use Rattle.rds_codec.proofs.digests.unfinished_digest.Goals as goal

pub returns : goal.returns
returns g c = digest_read c.args.replicas _ _ _ _ _ c.unfinished_dots.ensures c.unfinished_dots-2.ensures c.unfinished_counters-counters.ensures c.pair.ensures c.pair-2.ensures
