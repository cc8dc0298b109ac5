use Rattle.std.proofs.Common.{◌∙◌, sym, ap}
use Rattle.rds_life.specs.Life.{live_rows}
use Rattle.rds_life.proofs.Views.{live_rows-lives_of}
use Rattle.rds_life.proofs.lives.Lives.live.Goals as goal

pub returns-clause-rows : goal.returns-clause-rows
returns-clause-rows g c =
    c.iter.ensures.rows
    ∙ sym (live_rows-lives_of (g.S.DotSet.contents c.self.inside.seen) c.self.inside.rows c.self.invariant.rows) ∙ ap live_rows c.self.view_is
