use Rattle.std.proofs.Common.{◌-◌, length, ap, ◌∙◌, arith}
use Rattle.rds_dots.specs.declared.dot.Run.{Run}
use Rattle.rds_dots.specs.Runs.{is_run}
use Rattle.rds_gaps.proofs.Lasts.{run_at, set_longer, same_inside, push_apart, added_to_none}
use Rattle.rds_gaps.proofs.merging.add_run.Goals as goal
use Rattle.rds_gaps.proofs.merging.add_run.Goals.{then-count-gt0+else-not-is_apart, else-count-gt0}

pub is_apart-requires-clause-run_is : goal.is_apart-requires-clause-run_is
is_apart-requires-clause-run_is c =
    let n = ap (length {A = Run}) c.as_slice-count.ensures.value in
    ap is_run c.index.ensures ∙ run_at c.args.runs.now.items c.requires.runs_are c.index.result.now (length c.as_slice-count.result.now - 1) (omega arith)

pub returns-then-last-run-clause-ok : goal.returns-then-last-run-clause-ok
returns-then-last-run-clause-ok c =
    set_longer c.args.runs.now.items c.args.run c.index.result.now (length c.as_slice-count.result.now) (ap length c.as_slice-count.ensures.value) c.if-count-gt0.true c.index.ensures c.if-not-is_apart.ensures c.if-last-run.true

pub returns-else-last-run-clause-ok : goal.returns-else-last-run-clause-ok
returns-else-last-run-clause-ok c =
    same_inside c.args.runs.now.items c.args.run c.index.result.now (length c.as_slice-count.result.now) (ap length c.as_slice-count.ensures.value) c.if-count-gt0.true c.index.ensures c.if-not-is_apart.ensures c.if-last-run.false

pub returns-clause-ok : goal.returns-clause-ok
returns-clause-ok c =
    c.in_ok-push.ensures.items ∙ elim c.if-count-gt0.branch [
      | then-count-gt0+else-not-is_apart w ↦ push_apart c.args.runs.now.items c.args.run w.index.result.now (length c.as_slice-count.result.now) (ap length c.as_slice-count.ensures.value) w.if-count-gt0.true w.index.ensures w.if-not-is_apart.ensures
      | else-count-gt0 w ↦ (let n = ap (length {A = Run}) c.as_slice-count.ensures.value in let h = w.if-count-gt0.false in added_to_none c.args.runs.now.items c.args.run (omega arith))
    ]
