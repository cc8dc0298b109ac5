use Rattle.rds_dots.proofs.NextRuns.{no_run, other_run, next_run}
use Rattle.rds_dots.proofs.questions.next_run.Goals as goal

pub returns-in-None : goal.returns-in-None
returns-in-None g c = no_run (g.S.DotSet.contents c.args.set.now) (g.met.S.DotSet.within c.args.set.now) c.args.replica c.args.after c.in-None.ensures

pub returns-then-run-replica : goal.returns-then-run-replica
returns-then-run-replica g c = next_run (g.S.DotSet.contents c.args.set.now) (g.met.S.DotSet.within c.args.set.now) c.args.replica c.args.after c.in-Some.run' c.in-Some.ensures c.if-run-replica.true

pub returns-else-run-replica : goal.returns-else-run-replica
returns-else-run-replica g c = other_run (g.S.DotSet.contents c.args.set.now) (g.met.S.DotSet.within c.args.set.now) c.args.replica c.args.after c.in-Some.run' c.in-Some.ensures c.if-run-replica.false
