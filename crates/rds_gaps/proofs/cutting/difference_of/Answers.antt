use Rattle.std.proofs.Common.{sym}
use Rattle.rds_gaps.proofs.Unions.{none_of}
use Rattle.rds_gaps.proofs.Cuts.{run_in_hand, cut_missed, cut_past, cut_next, cut_last}
use Rattle.rds_gaps.proofs.cutting.difference_of.Goals as goal

pub ends_before-requires-clause-next_is : goal.ends_before-requires-clause-next_is
ends_before-requires-clause-next_is c = run_in_hand c.cutting.runs.items c.cutting.run c.cutting.rest.now c.cutting.right.now c.args.left.now c.args.right.now c.cutting.invariant

pub add_before-requires-clause-run_is : goal.add_before-requires-clause-run_is
add_before-requires-clause-run_is c = run_in_hand c.cutting.runs.items c.cutting.run c.cutting.rest.now c.cutting.right.now c.args.left.now c.args.right.now c.cutting.invariant

pub ends_past-requires-clause-run_is : goal.ends_past-requires-clause-run_is
ends_past-requires-clause-run_is c = run_in_hand c.cutting.runs.items c.cutting.run c.cutting.rest.now c.cutting.right.now c.args.left.now c.args.right.now c.cutting.invariant

pub cutting-preserved-then-ends_before : goal.cutting-preserved-then-ends_before
cutting-preserved-then-ends_before c =
    let y = c.in-Some-split_first in
    cut_missed c.cutting.runs.items c.cutting.run c.cutting.rest.now c.cutting.right.now c.args.left.now c.args.right.now y.cut.now y.later.now c.cutting.invariant (c.in-Some-split_first.ensures.cases).0 (sym c.if-ends_before.ensures)

pub cutting-preserved-then-ends_past : goal.cutting-preserved-then-ends_past
cutting-preserved-then-ends_past c =
    let y = c.in-Some-split_first in
    cut_past c.cutting.runs.items c.cutting.run c.cutting.rest.now c.cutting.right.now c.args.left.now c.args.right.now y.cut.now y.later.now c.add_before.new.runs.items c.cutting.invariant (c.in-Some-split_first.ensures.cases).0 (sym c.if-ends_before.ensures) (sym c.if-ends_past.ensures) c.in_ok-add_before.ensures

pub cutting-preserved : goal.cutting-preserved
cutting-preserved c =
    let y = c.in-Some-split_first in
    let x = c.in-Some-split_first-2 in
    cut_next c.cutting.runs.items c.cutting.run c.cutting.rest.now c.cutting.right.now c.args.left.now c.args.right.now y.cut.now y.later.now c.add_before.new.runs.items x.next.now x.others.now c.cutting.invariant (c.in-Some-split_first.ensures.cases).0 (sym c.if-ends_before.ensures) (sym c.if-ends_past.ensures) c.in_ok-add_before.ensures (c.in-Some-split_first-2.ensures.cases).0

pub returns-in_default-split_first-2 : goal.returns-in_default-split_first-2
returns-in_default-split_first-2 c =
    let y = c.in-Some-split_first in
    cut_last c.cutting.runs.items c.cutting.run c.cutting.rest.now c.cutting.right.now c.args.left.now c.args.right.now y.cut.now y.later.now c.add_before.new.runs.items c.cutting.invariant (c.in-Some-split_first.ensures.cases).0 (sym c.if-ends_before.ensures) (sym c.if-ends_past.ensures) c.in_ok-add_before.ensures (none_of c.cutting.rest.now c.in_default-split_first-2.ensures.cases)
