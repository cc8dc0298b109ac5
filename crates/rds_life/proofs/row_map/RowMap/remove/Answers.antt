use Rattle.std.proofs.Common.{◌∙◌, ap}
use Rattle.rds_life.specs.Removed.{rows_without}
use Rattle.rds_life.proofs.MappedRows.{remove-without}
use Rattle.rds_life.proofs.row_map.RowMap.remove.Goals as goal

pub returns : goal.returns
returns c = c.remove-entry.ensures.entries ∙ remove-without c.args.dot c.self.inside.rows.entries c.len-in_order.ensures.ordered ∙ ap (rows_without c.args.dot) c.self.view_is
