use Rattle.std.proofs.Common.{arith}
use Rattle.rds_briefs.proofs.Counted.{counts_within}
use Rattle.rds_briefs.proofs.text.Text.with_counters.Goals as goal

pub put_counters-requires : goal.put_counters-requires
put_counters-requires c =
    counts_within c.args.counts.now (omega (arith, c.if-from-total.false, c.from.ensures, c.from-2.ensures, c.counters_length.ensures.length))
