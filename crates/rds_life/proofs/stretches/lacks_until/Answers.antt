use Rattle.std.proofs.Common.{◌≤◌, ◌-◌, arith}
use Rattle.rds_dots.proofs.NextRuns.{no_run, other_run}
use Rattle.rds_life.proofs.GapRows.{begins_later}
use Rattle.rds_life.proofs.Reaches.{unreached}
use Rattle.rds_life.proofs.stretches.lacks_until.Goals as goal

pub overflow_sub-run : goal.overflow_sub-run
overflow_sub-run g c = begins_later (g.S.DotSet.contents c.args.dots.now) (g.met.S.DotSet.within c.args.dots.now) c.args.dot c.in-Some.run' c.in-Some.ensures

pub returns-in-Some-clause-lacks : goal.returns-in-Some-clause-lacks
returns-in-Some-clause-lacks g c = λ n p q.
    let below : n ≤ c.in-Some.run'.lo - 1 = omega (arith, p, q, c.max.ensures) in
    unreached (g.S.DotSet.contents c.args.dots.now) (g.met.S.DotSet.within c.args.dots.now) c.args.dot c.in-Some.run' c.in-Some.ensures c.if-run-dot.true n p below

pub returns-in_default-clause-lacks : goal.returns-in_default-clause-lacks
returns-in_default-clause-lacks g c = λ n p q.
    other_run (g.S.DotSet.contents c.args.dots.now) (g.met.S.DotSet.within c.args.dots.now) c.args.dot.replica c.args.dot.seq c.in-Some.run' c.in-Some.ensures c.if-run-dot.false n p

pub returns-in_default-2-clause-lacks : goal.returns-in_default-2-clause-lacks
returns-in_default-2-clause-lacks g c = λ n p q.
    no_run (g.S.DotSet.contents c.args.dots.now) (g.met.S.DotSet.within c.args.dots.now) c.args.dot.replica c.args.dot.seq c.in_default.ensures n p
