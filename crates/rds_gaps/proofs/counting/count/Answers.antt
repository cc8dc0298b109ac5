use Rattle.std.proofs.Common.{arith}
use Rattle.rds_dots.specs.declared.dot.Run.{Run}
use Rattle.rds_gaps.proofs.Counts.{counted_fits}
use Rattle.rds_gaps.proofs.Lasts.{run_at}
use Rattle.rds_gaps.proofs.counting.count.Goals as goal

pub len-count-requires : goal.len-count-requires
len-count-requires c = let none : Run = record { replica = 0; lo = 0; hi = 0 } in run_at c.args.runs.now c.requires none c.loop-run.run-index c.loop-run-test.true

pub overflow_add-count : goal.overflow_add-count
overflow_add-count c =
    let none : Run = record { replica = 0; lo = 0; hi = 0 } in
    let fits = counted_fits c.args.runs.now c.requires c.loop-run.run-index none c.loop-run-test.true in
    omega (arith, fits, c.loop-run.invariant, c.len-count.ensures)
