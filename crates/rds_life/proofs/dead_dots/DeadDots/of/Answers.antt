use Rattle.rds_life.proofs.DeadSets.{with_none}
use Rattle.rds_life.proofs.dead_dots.DeadDots.of.Goals as goal

pub returns : goal.returns
returns g c = with_none (g.S.DotSet.contents c.args.dots) (g.S.DotSet.contents c.empty.result) c.empty.ensures
