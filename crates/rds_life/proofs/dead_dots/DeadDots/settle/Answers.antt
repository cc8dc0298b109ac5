use Rattle.std.proofs.Common.{◌∙◌}
use Rattle.rds_life.proofs.DeadSets.{with_none}
use Rattle.rds_life.proofs.dead_dots.DeadDots.settle.Goals as goal

pub returns : goal.returns
returns g c =
    with_none (g.S.DotSet.contents c.in_ok-self-inside.field-0) (g.S.DotSet.contents c.empty.result) c.empty.ensures
    ∙ c.in_ok-self-inside.ensures.ok ∙ c.self.view_is
