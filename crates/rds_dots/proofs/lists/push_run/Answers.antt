use Rattle.std.proofs.Common.{◌≡◌, ◌+◌, ◌-◌, arith}
use Rattle.std.proofs.lemmas.Grind.{common_steps}
use Rattle.rds_dots.specs.Sets.{dots_from_more}
use Rattle.rds_dots.proofs.lists.push_run.Goals as goal

pub loop-seq-preserved : goal.loop-seq-preserved
loop-seq-preserved c =
    let run = c.args.run in
    let n = c.loop-seq.seq - run.lo in
    let e = dots_from_more run.replica run.lo n in
    let here : run.lo + n ≡ c.loop-seq.seq = omega arith in
    let next : n + 1 ≡ c.loop-seq.seq + 1 - run.lo = omega arith in
    record {
      items = grind (arith, common_steps, e, here, next, c.loop-seq.invariant.items, c.in_ok-push.ensures.items);
      room = omega (arith, c.loop-seq.invariant.room, c.in_ok-push.ensures.len);
    }
