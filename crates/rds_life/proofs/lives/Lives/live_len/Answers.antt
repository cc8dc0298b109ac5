use Rattle.std.proofs.Common.{◌∙◌, sym, ap, length}
use Rattle.rds_life.specs.Life.{live_rows}
use Rattle.rds_life.proofs.Views.{live_rows-lives_of}
use Rattle.rds_life.proofs.lives.Lives.live_len.Goals as goal

pub returns : goal.returns
returns g c =
    c.len.ensures
    ∙ ap length (sym (live_rows-lives_of (g.S.DotSet.contents c.self.inside.seen) c.self.inside.rows c.self.invariant.rows) ∙ ap live_rows c.self.view_is)
