use Rattle.std.proofs.Common.{◌≡◌, ◌∙◌, true, subst}
use Rattle.rds_dots.specs.Ascending.{ascends}
use Rattle.rds_life.specs.Life.{keys}
use Rattle.rds_life.proofs.MappedRows.{rises}
use Rattle.rds_life.proofs.PastRows.{all_kept}
use Rattle.rds_life.proofs.row_map.RowMap.iter.Goals as goal

pub returns-clause-rows : goal.returns-clause-rows
returns-clause-rows c = c.range.ensures.between tt ∙ all_kept c.self.inside.rows.entries ∙ c.self.view_is

pub returns-clause-rise : goal.returns-clause-rise
returns-clause-rise c = subst (λ rows. ascends (keys rows) ≡ true) c.self.view_is (rises c.self.inside.rows.entries c.len-in_order.ensures.ordered)

pub invariant_of-result : goal.invariant_of-result
invariant_of-result c = (returns-clause-rows c, returns-clause-rise c)
