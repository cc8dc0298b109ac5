use Rattle.std.proofs.Common.{◌≤◌, arith}
use Rattle.rds_dots.specs.Lacking.{dot_of}
use Rattle.rds_life.proofs.DeadSets.{in_neither}
use Rattle.rds_life.proofs.dead_dots.DeadDots.lacks_until.Goals as goal

pub returns-clause-lacks : goal.returns-clause-lacks
returns-clause-lacks g c = λ n p q.
    let first : n ≤ c.lacks_until.result = omega (arith, q, c.min.ensures) in
    let second : n ≤ c.lacks_until-2.result = omega (arith, q, c.min.ensures) in
    in_neither (g.S.DotSet.contents c.self.inside.settled) (g.S.DotSet.contents c.self.inside.recent) c.args.self.now c.self.view_is (dot_of c.args.dot.replica n)
    (c.lacks_until.ensures.lacks n p first) (c.lacks_until-2.ensures.lacks n p second)
