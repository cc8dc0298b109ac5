use Rattle.std.proofs.Common.{sym}
use Rattle.rds_bytes.proofs.ShortKeys.{live_row_is}
use Rattle.rds_bytes.proofs.live_rows.LiveRowReaderPartReaderTuple2DotEntry.read.Goals as goal

pub returns : goal.returns
returns g c = rw (sym (live_row_is (g.S.DotSet.contents c.args.self.now.seen.now) c.args.before.now)) c.read_keyed_live_row.ensures.read
