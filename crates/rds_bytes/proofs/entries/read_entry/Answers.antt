use Rattle.std.proofs.Common.{sym}
use Rattle.rds_bytes.proofs.ShortKeys.{entry_is}
use Rattle.rds_bytes.proofs.entries.read_entry.Goals as goal

pub returns : goal.returns
returns c = rw (sym (entry_is)) c.read_keyed_entry.ensures.read
