use Rattle.rds_dots.specs.declared.dot.Run.{Run}
use Rattle.rds_gaps.proofs.Unions.{add_step, add_end}
use Rattle.rds_gaps.proofs.merging.add_all.Goals as goal

pub loop-run-preserved : goal.loop-run-preserved
loop-run-preserved c =
    let d : Run = record { replica = 0; lo = 0; hi = 0 } in
    add_step c.args.rest.now c.loop-run.run-index d c.loop-run.runs.items c.add_run.new.runs.items c.args.runs.now.items c.args.rest.now c.loop-run-test.true c.in_ok-add_run.ensures.ok c.loop-run.invariant

pub returns : goal.returns
returns c = add_end c.args.rest.now c.loop-run.run-index c.loop-run.runs.items c.args.runs.now.items c.args.rest.now c.loop-run-test.false c.loop-run.invariant
