use Rattle.std.proofs.Common.{sym}
use Rattle.rds_gaps.proofs.Unions.{out_of_left, out_of_right, step_left, step_right, none_of}
use Rattle.rds_gaps.proofs.merging.union_of.Goals as goal

pub returns-in_default : goal.returns-in_default
returns-in_default c =
    out_of_left c.merging.left.now c.merging.right.now c.merging.runs.items c.args.left.now c.args.right.now c.add_all.new.runs.items c.merging.invariant (none_of c.merging.left.now c.in_default.ensures.cases) c.in_ok-add_all.ensures

pub returns-in_default-split_first : goal.returns-in_default-split_first
returns-in_default-split_first c =
    out_of_right c.merging.left.now c.merging.right.now c.merging.runs.items c.args.left.now c.args.right.now c.add_all-in_default-split_first.new.runs.items c.merging.invariant (none_of c.merging.right.now c.in_default-split_first.ensures.cases) c.in_ok-add_all-2.ensures

pub merging-preserved-then-begins_first : goal.merging-preserved-then-begins_first
merging-preserved-then-begins_first c =
    let x = c.in-Some in
    let y = c.in-Some-split_first in
    step_left c.merging.left.now c.merging.right.now c.merging.runs.items c.add_run.new.runs.items c.args.left.now c.args.right.now x.x.now x.xs.now y.y.now y.ys.now c.merging.invariant (c.in-Some.ensures.cases).0 (c.in-Some-split_first.ensures.cases).0 (sym c.if-begins_first.ensures) c.in_ok-add_run.ensures.ok

pub merging-preserved : goal.merging-preserved
merging-preserved c =
    let x = c.in-Some in
    let y = c.in-Some-split_first in
    step_right c.merging.left.now c.merging.right.now c.merging.runs.items c.add_run-else-begins_first.new.runs.items c.args.left.now c.args.right.now x.x.now x.xs.now y.y.now y.ys.now c.merging.invariant (c.in-Some.ensures.cases).0 (c.in-Some-split_first.ensures.cases).0 (sym c.if-begins_first.ensures) c.in_ok-add_run-2.ensures.ok
