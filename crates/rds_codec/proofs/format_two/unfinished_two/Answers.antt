use Rattle.rds_codec.proofs.TwoParts.{two_read}
use Rattle.rds_codec.proofs.format_two.unfinished_two.Goals as goal

pub returns : goal.returns
returns g c = two_read c.args.replicas _ _ _ c.unfinished_table.ensures c.unfinished_dots.ensures c.pair-keys.ensures
