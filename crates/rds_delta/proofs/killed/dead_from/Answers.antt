use Rattle.std.proofs.Common.{◌∙◌, ap, min}
use Rattle.rds_delta.proofs.DeadLemmas.{dead_lifeless}
use Rattle.rds_delta.proofs.killed.dead_from.Goals as goal

pub returns-in-Some : goal.returns-in-Some
returns-in-Some g c =
    let seen = c.stretch_from-seen in
    dead_lifeless c.args.lives.now c.args.run (g.S.DotSet.contents c.seen.result.now) c.seen.ensures c.requires c.in-Some.until c.in-Some.ensures
    seen.result.has seen.result.until seen.ensures c.min-in-Some.result (c.min-in-Some.ensures ∙ ap (λ n. min n seen.result.until) c.min.ensures)
