use Rattle.std.proofs.Common.{◌∙◌, sym, ap}
use Rattle.rds_life.specs.Life.{live_rows}
use Rattle.rds_life.specs.Past.{first_row, rows_from}
use Rattle.rds_life.proofs.Views.{live_rows-lives_of}
use Rattle.rds_life.proofs.lives.Lives.first_from.Goals as goal

pub returns : goal.returns
returns g c =
    c.first_from.ensures
    ∙ ap (λ rows. first_row (rows_from c.args.dot rows)) (sym (live_rows-lives_of (g.S.DotSet.contents c.self.inside.seen) c.self.inside.rows c.self.invariant.rows) ∙ ap live_rows c.self.view_is)
