use Rattle.rds_codec.proofs.Parts.{one_read}
use Rattle.rds_codec.proofs.format_one.unfinished_one.Goals as goal

pub returns : goal.returns
returns g c = one_read c.args.replicas _ _ c.unfinished_seen-seen.ensures c.unfinished_counters-counters.ensures _ c.pair.ensures
