use Rattle.std.proofs.Common.{arith}
use Rattle.rds_journal.proofs.Places.{sum_fits}
use Rattle.rds_journal.proofs.torn.claimed_in_all.Goals as goal

pub overflow_add-sum : goal.overflow_add-sum
overflow_add-sum c =
    let fits = sum_fits c.args.bytes.now c.adding.rest.now c.in-Some.later.now c.in-Some.field-0-0.now c.adding.sum c.requires c.in-Some.ensures.cases.0 c.adding.invariant in
    omega (arith, c.claimed-sum.ensures, fits)
