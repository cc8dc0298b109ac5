use Rattle.std.proofs.Common.{◌∙◌, ap}
use Rattle.std.specs.FinMap as map
use Rattle.rds_dots.specs.Dots.{dot_cmp}
use Rattle.rds_life.proofs.MappedRows.{lookup-find}
use Rattle.rds_life.proofs.row_map.RowMap.find.Goals as goal

pub returns : goal.returns
returns c = c.get.ensures.value ∙ lookup-find c.args.dot c.self.inside.rows.entries ∙ ap (map.find dot_cmp c.args.dot) c.self.view_is
