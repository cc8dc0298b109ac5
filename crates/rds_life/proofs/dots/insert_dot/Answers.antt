use Rattle.std.proofs.Common.{◌∙◌, ap, ◌||◌}
use Rattle.std.specs.FinSet as set
use Rattle.rds_dots.specs.Dots.{in_run}
use Rattle.rds_life.proofs.Singles.{insert_one}
use Rattle.rds_life.proofs.dots.insert_dot.Goals as goal

pub returns-clause-ok : goal.returns-clause-ok
returns-clause-ok g c =
    let s = g.S.DotSet.contents c.args.dots.now in
    insert_one s (g.S.DotSet.contents c.insert_run.new.self) c.args.dot (λ q. c.in_ok-insert_run.ensures.ok q ∙ ap (λ run. in_run run q || set.contains s q) c.run_of.ensures)
