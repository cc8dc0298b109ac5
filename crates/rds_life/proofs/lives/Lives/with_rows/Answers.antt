use Rattle.std.proofs.Common.{◌∙◌, ap}
use Rattle.rds_life.specs.Life.{lives_of, live_rows}
use Rattle.rds_life.proofs.Views.{seen_of-lives_of, live_rows-lives_of}
use Rattle.rds_life.proofs.lives.Lives.with_rows.Goals as goal

pub returns-clause-seen : goal.returns-clause-seen
returns-clause-seen g c = seen_of-lives_of (g.S.DotSet.contents c.args.seen) c.listed.result

pub returns-clause-live : goal.returns-clause-live
returns-clause-live g c =
    let s = g.S.DotSet.contents c.args.seen in
    ap (λ rows. live_rows (lives_of s rows)) c.listed.ensures ∙ live_rows-lives_of s c.args.rows.items c.requires.rows
