use Rattle.std.proofs.Common.{◌≤◌, arith}
use Rattle.rds_dots.specs.Lacking.{dot_of}
use Rattle.rds_life.proofs.DeadSets.{live_between}
use Rattle.rds_life.proofs.lives.Lives.live_until.Goals as goal

pub returns-in-Some-clause-live : goal.returns-in-Some-clause-live
returns-in-Some-clause-live g c = λ n p q.
    let seen : n ≤ c.has_until.result = omega (arith, q, c.min.ensures) in
    let lacks : n ≤ c.lacks_until.result = omega (arith, q, c.min.ensures) in
    live_between (g.S.DotSet.contents c.self.inside.seen) c.self.inside.rows c.args.self.now c.self.view_is c.self.inside.dead c.self.invariant.dead _ c.in-Some.is (dot_of c.args.dot.replica n)
    (c.has_until.ensures.has n p seen) (c.lacks_until.ensures.lacks n p lacks)
