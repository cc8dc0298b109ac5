use Rattle.std.proofs.Common.{◌≡◌, subst, true}
use Rattle.rds_dots.specs.Ascending.{ascends}
use Rattle.rds_life.specs.Life.{keys}
use Rattle.rds_life.proofs.MappedRows.{rises}
use Rattle.rds_life.proofs.row_map.RowMap.len.Goals as goal

pub returns-clause-rise : goal.returns-clause-rise
returns-clause-rise c = subst (λ rows. ascends (keys rows) ≡ true) c.self.view_is (rises c.self.inside.rows.entries c.len.ensures.ordered)
