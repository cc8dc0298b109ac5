use Rattle.std.proofs.Common.{◌∙◌, ap}
use Rattle.std.specs.FinMap as map
use Rattle.rds_dots.specs.Dots.{dot_cmp}
use Rattle.rds_life.proofs.MappedRows.{insert-put}
use Rattle.rds_life.proofs.row_map.RowMap.insert.Goals as goal

pub returns-clause-ok : goal.returns-clause-ok
returns-clause-ok c = c.in_ok-insert.ensures.entries ∙ insert-put c.args.dot c.args.entry c.self.inside.rows.entries ∙ ap (map.put dot_cmp c.args.dot c.args.entry) c.self.view_is
