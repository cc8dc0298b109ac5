use Rattle.std.proofs.Common.{◌∙◌, sym, ap}
use Rattle.std.specs.FinSet as set
use Rattle.rds_life.specs.Life.{keys, live_of}
use Rattle.rds_life.proofs.Deaths.{dead_is}
use Rattle.rds_life.proofs.Views.{live_rows-lives_of}
use Rattle.std.proofs.lemmas.Result.{IfOk-weaker}
use Rattle.rds_life.proofs.DeadSets.{dead_known}
use Rattle.rds_life.proofs.lives.Lives.dead.Goals as goal

pub returns-clause-dots : goal.returns-clause-dots
returns-clause-dots g c =
    let contents = g.S.DotSet.contents in
    let s = contents c.self.inside.seen in
    let rows = c.self.inside.rows in
    dead_is s (contents c.in_ok-live.live) (contents c.in_ok-dead.dead) rows c.args.self.now c.self.view_is
    (c.in_ok-live.ensures.dots ∙ ap live_of (sym c.self.view_is) ∙ ap (λ r. set.from_list (keys r)) (live_rows-lives_of s rows c.self.invariant.rows)) c.in_ok-dead.ensures.ok

pub returns-in-Some-clause-dots : goal.returns-in-Some-clause-dots
returns-in-Some-clause-dots g c =
    IfOk-weaker c.dots.result _ _
    (λ dots same d. ap (λ t. set.contains t d) same ∙ dead_known (g.S.DotSet.contents c.self.inside.seen) c.self.inside.rows c.args.self.now c.self.view_is c.self.inside.dead c.self.invariant.dead _ c.in-Some.is d)
    c.dots.ensures.ok
