use Rattle.rds_dots.specs.declared.dot.Run.{Run}
use Rattle.rds_gaps.proofs.Lasts.{run_at}
use Rattle.rds_gaps.proofs.Places.{coalesce_more}
use Rattle.rds_gaps.proofs.inserting.coalesced.Goals as goal

pub is_apart-requires-clause-next_is : goal.is_apart-requires-clause-next_is
is_apart-requires-clause-next_is c = let none : Run = record { replica = 0; lo = 0; hi = 0 } in run_at c.args.runs.now c.requires.runs_are none c.coalescing.to c.coalescing-test.true

pub coalescing-preserved : goal.coalescing-preserved
coalescing-preserved c =
    let none : Run = record { replica = 0; lo = 0; hi = 0 } in
    coalesce_more c.args.runs.now c.args.from c.args.run c.coalescing.to c.coalescing.whole none c.hull-whole.result c.requires.runs_are c.requires.reaches c.coalescing.invariant c.coalescing-test.true c.if-is_apart.ensures c.hull-whole.ensures
