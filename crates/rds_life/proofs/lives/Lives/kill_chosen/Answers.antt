use Rattle.std.proofs.Common.{◌∙◌, sym, ap}
use Rattle.std.specs.Prelude.{count_by}
use Rattle.rds_names.specs.declared.entry.Entry.{Entry}
use Rattle.rds_dots.specs.declared.dot.Dot.{Dot}
use Rattle.rds_life.specs.Life.{live_rows}
use Rattle.rds_life.proofs.Kills.{rows-left, get-left}
use Rattle.rds_life.proofs.Views.{live_rows-lives_of}
use Rattle.rds_life.proofs.DeadSets.{kept-none}
use Rattle.rds_life.proofs.lives.Lives.kill_chosen.Goals as goal

pub invariant_of-self : goal.invariant_of-self
invariant_of-self g c =
    rw c.remove_chosen.ensures.kept (kept-none _ _ (rows-left (g.C.Choice.chosen c.args.choice.now) (g.S.DotSet.contents c.self.inside.seen) c.self.inside.rows c.self.invariant.rows))

pub returns-clause-lives : goal.returns-clause-lives
returns-clause-lives g c = λ d.
    rw c.remove_chosen.ensures.kept (get-left (g.C.Choice.chosen c.args.choice.now) (g.S.DotSet.contents c.self.inside.seen) c.self.inside.rows c.self.invariant.rows c.args.self.now c.self.view_is d)

pub returns-clause-killed : goal.returns-clause-killed
returns-clause-killed g c =
    let rows = live_rows-lives_of (g.S.DotSet.contents c.self.inside.seen) c.self.inside.rows c.self.invariant.rows in
    c.remove_chosen.ensures.count ∙ ap (count_by (λ (r : Dot × Entry). g.C.Choice.chosen c.args.choice.now r.0 r.1)) (sym rows ∙ ap live_rows c.self.view_is)
