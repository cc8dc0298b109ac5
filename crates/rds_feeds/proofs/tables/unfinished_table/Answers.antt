use Rattle.rds_feeds.proofs.TableKeys.{table_read}
use Rattle.rds_feeds.proofs.tables.unfinished_table.Goals as goal

pub returns : goal.returns
returns c = rw c.new.ensures table_read
