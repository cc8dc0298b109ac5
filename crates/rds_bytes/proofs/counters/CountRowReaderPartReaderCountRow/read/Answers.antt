use Rattle.std.proofs.Common.{sym}
use Rattle.rds_bytes.proofs.ShortKeys.{count_row_is}
use Rattle.rds_bytes.proofs.counters.CountRowReaderPartReaderCountRow.read.Goals as goal

pub returns : goal.returns
returns c = rw (sym (count_row_is c.args.self.now.replicas c.args.before.now)) c.read_keyed_count_row.ensures.read
