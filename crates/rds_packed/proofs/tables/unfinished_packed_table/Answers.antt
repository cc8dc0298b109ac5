use Rattle.rds_packed.proofs.FrontKeys.{table_read}
use Rattle.rds_packed.proofs.tables.unfinished_packed_table.Goals as goal

pub returns : goal.returns
returns c = rw c.new-keys.ensures (table_read _ c.unfinished_packed.ensures)
