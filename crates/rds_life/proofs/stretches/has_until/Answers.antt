use Rattle.rds_life.proofs.GapRows.{begins_later}
use Rattle.rds_life.proofs.Reaches.{ends_later, reached}
use Rattle.rds_life.proofs.stretches.has_until.Goals as goal

pub overflow_sub-run : goal.overflow_sub-run
overflow_sub-run g c = begins_later (g.S.DotSet.contents c.args.dots.now) (g.met.S.DotSet.within c.args.dots.now) c.args.dot c.in-Some.run' c.in-Some.ensures

pub returns-in-Some-clause-from : goal.returns-in-Some-clause-from
returns-in-Some-clause-from g c = ends_later (g.S.DotSet.contents c.args.dots.now) (g.met.S.DotSet.within c.args.dots.now) c.args.dot c.in-Some.run' c.in-Some.ensures c.if-run-dot.true

pub returns-in-Some-clause-has : goal.returns-in-Some-clause-has
returns-in-Some-clause-has g c = reached (g.S.DotSet.contents c.args.dots.now) (g.met.S.DotSet.within c.args.dots.now) c.args.dot c.in-Some.run' c.in-Some.ensures c.if-run-dot.true c.if-run-dot-2.true
