use Rattle.std.proofs.Common.{◌∙◌, sym, ap}
use Rattle.std.specs.List.{list_all}
use Rattle.rds_dots.specs.Dots.{is_dot}
use Rattle.rds_life.specs.Life.{keys}
use Rattle.rds_life.proofs.Gathers.{gathered_first, gathered_all}
use Rattle.rds_life.proofs.dots.dots_of.Goals as goal

pub gathering-init : goal.gathering-init
gathering-init g c =
    let all = ap (λ rows. keys rows) c.in-Some.ensures.steps in
    rw (all, c.run_of-run.ensures)
    (gathered_first (g.S.DotSet.contents c.empty-dots.result) c.in-Some.first (keys c.next.new.self) c.empty-dots.ensures (ap (list_all is_dot) (sym all) ∙ c.requires))

pub returns-in-None-next-clause-ok : goal.returns-in-None-next-clause-ok
returns-in-None-next-clause-ok g c =
    gathered_all (g.S.DotSet.contents c.gathering.dots) (g.S.DotSet.contents c.insert_run.new.self) c.gathering.run (keys c.gathering.rest) (keys c.args.rows) c.gathering.invariant (ap (λ rows. keys rows) c.in-None-next.ensures.steps.0) c.in_ok-insert_run-in-None-next.ensures.ok
