use Rattle.std.proofs.Common.{◌∙◌, ap}
use Rattle.std.specs.FinSet as set
use Rattle.std.proofs.lemmas.Result.{on_ok_weaker}
use Rattle.rds_life.proofs.DeadSets.{with_more}
use Rattle.rds_life.proofs.dead_dots.DeadDots.add_all.Goals as goal

pub returns : goal.returns
returns g c =
    let s = g.S.DotSet.contents c.self.inside.settled in
    let t = g.S.DotSet.contents c.self.inside.recent in
    on_ok_weaker c.settle.result
    (λ same d. ap (λ u. set.contains u d) same ∙ with_more s t c.args.self.now c.self.view_is d (g.S.DotSet.contents c.in_ok-self-inside.field-0) (g.S.DotSet.contents c.args.dots.now) c.in_ok-self-inside.ensures.ok)
    c.settle.ensures
