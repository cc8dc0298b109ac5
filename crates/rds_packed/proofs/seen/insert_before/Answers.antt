use Rattle.std.proofs.Common.{◌∙◌, ap, sym}
use Rattle.rds_feeds.specs.SeenDots.{with_runs}
use Rattle.rds_packed.proofs.SeenRuns.{before_none, before_is, with_none}
use Rattle.rds_packed.proofs.seen.insert_before.Goals as goal

pub returns-in_ok-insert_run-clause-ok : goal.returns-in_ok-insert_run-clause-ok
returns-in_ok-insert_run-clause-ok g c =
    before_is c.args.replica c.args.least c.args.lo (g.S.DotSet.contents c.args.seen.now) (g.S.DotSet.contents c.insert_run.new.self) c.requires.from_one c.requires.within c.if-least-lo.true c.in_ok-insert_run.ensures.ok

pub returns-else-least-lo-clause-ok : goal.returns-else-least-lo-clause-ok
returns-else-least-lo-clause-ok g c =
    with_none _ ∙ ap (λ rs. with_runs rs (g.S.DotSet.contents c.args.seen.now)) (sym (before_none c.args.replica c.args.least c.args.lo c.if-least-lo.false))
