use Rattle.std.proofs.Common.{rules, ap, ◌∙◌, Some}
use Rattle.rds_dots.specs.declared.dot.Dot.{Dot}
use Rattle.rds_dots.specs.Runs.{first_after, runs_of}
use Rattle.rds_packed.proofs.SeenWalks.{follows_kept}
use Rattle.rds_packed.proofs.sets.next_in.Goals as goal

pub returns : goal.returns
returns g c =
    let s = g.S.DotSet.contents c.args.seen.now in
    let found = c.run_after.ensures ∙ ap (λ (d : Dot). first_after (Some d) (runs_of s)) c.last_of.ensures in
    follows_kept s (g.met.S.DotSet.within c.args.seen.now) c.args.run c.run_after.result c.filter.result found _ (λ x b h. search rules) c.filter.ensures
