use Rattle.std.proofs.Common.{◌∙◌, sym, ap}
use Rattle.std.specs.FinSet as set
use Rattle.std.specs.List.{list_all}
use Rattle.rds_dots.specs.Dots.{is_dot}
use Rattle.rds_life.specs.Life.{keys, live_of}
use Rattle.rds_life.proofs.Deaths.{all_rows}
use Rattle.rds_life.proofs.Views.{live_rows-lives_of}
use Rattle.rds_life.proofs.DeadSets.{live_known}
use Rattle.rds_life.proofs.lives.Lives.live_dots.Goals as goal

pub dots_of-requires : goal.dots_of-requires
dots_of-requires g c =
    ap (λ rows. list_all is_dot (keys rows)) c.iter.ensures.rows
    ∙ all_rows (g.S.DotSet.contents c.self.inside.seen) is_dot (g.met.S.DotSet.within c.self.inside.seen) c.self.inside.rows c.self.invariant.rows.seen_all

pub returns-clause-dots : goal.returns-clause-dots
returns-clause-dots g c =
    c.in_ok-live.ensures.ok ∙ ap (λ r. set.from_list (keys r)) (c.iter.ensures.rows ∙ sym (live_rows-lives_of (g.S.DotSet.contents c.self.inside.seen) c.self.inside.rows c.self.invariant.rows))
    ∙ ap live_of c.self.view_is

pub returns-in-Some-clause-dots : goal.returns-in-Some-clause-dots
returns-in-Some-clause-dots g c =
    let s = g.S.DotSet.contents c.self.inside.seen in
    live_known s c.self.inside.rows c.args.self.now c.self.view_is c.self.inside.dead c.self.invariant.dead _ c.in-Some.is (g.S.DotSet.contents c.in_ok-left.left)
    (c.in_ok-left.ensures.ok ∙ ap (set.difference s) c.in_ok-dead.ensures.ok)
