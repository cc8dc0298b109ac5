use Rattle.std.proofs.Common.{◌∙◌, sym, ap}
use Rattle.rds_life.specs.Life.{seen_of}
use Rattle.rds_life.proofs.Views.{seen_of-lives_of}
use Rattle.rds_life.proofs.lives.Lives.seen.Goals as goal

pub returns : goal.returns
returns g c = sym (seen_of-lives_of (g.S.DotSet.contents c.self.inside.seen) c.self.inside.rows) ∙ ap seen_of c.self.view_is
