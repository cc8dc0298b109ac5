use Rattle.std.proofs.Common.{arith}
use Rattle.rds_life.specs.Killed.{but_for}
use Rattle.rds_life.proofs.Counting.{count_killed}
use Rattle.rds_life.proofs.lives.Lives.kill_found.Goals as goal

pub overflow_sub-result : goal.overflow_sub-result
overflow_sub-result g c =
    let n = count_killed (but_for c.args.but (g.F.Found.found c.args.found.now)) c.args.self.now c.kill_in.new.lives c.kill_in.ensures in
    let b = c.live_len-before.ensures in
    let a = c.live_len.ensures in
    omega (arith, n, b, a)

pub returns-clause-killed : goal.returns-clause-killed
returns-clause-killed g c =
    let n = count_killed (but_for c.args.but (g.F.Found.found c.args.found.now)) c.args.self.now c.kill_in.new.lives c.kill_in.ensures in
    let b = c.live_len-before.ensures in
    let a = c.live_len.ensures in
    omega (arith, n, b, a)
