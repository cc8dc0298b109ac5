use Rattle.std.proofs.Common.{length, Some, refl, ap, sym, ◌∙◌, arith}
use Rattle.rds_dots.specs.Runs.{runs_of}
use Rattle.rds_dots.specs.RunsOf.{are_runs}
use Rattle.rds_dots.proofs.RunWalks.{all_left, none_left, one_left}
use Rattle.rds_dots.proofs.SameRuns.{same_runs, same_left, one_run_of}
use Rattle.rds_dots.proofs.questions.same.Goals as goal

pub comparing-init : goal.comparing-init
comparing-init g c = λ e. sym (all_left (runs_of (g.S.DotSet.contents c.args.left.now))) ∙ e ∙ all_left (runs_of (g.S.DotSet.contents c.args.right.now))

pub returns-in-None-None : goal.returns-in-None-None
returns-in-None-None g c =
    let l = g.S.DotSet.contents c.args.left.now in
    let r = g.S.DotSet.contents c.args.right.now in
    let p = none_left c.comparing.after (runs_of l) (sym c.run_after.ensures ∙ c.in-None-None.is-0) in
    let q = none_left c.comparing.after (runs_of r) (sym c.in-None-None.ensures) in
    (λ _. same_runs l r (g.met.S.DotSet.within c.args.left.now) (g.met.S.DotSet.within c.args.right.now) (c.comparing.invariant (p ∙ sym q)), λ _. refl)

pub comparing-smaller : goal.comparing-smaller
comparing-smaller g c =
    let s = c.args.left.now in
    let e = ap length (one_left c.comparing.after (runs_of (g.S.DotSet.contents s)) (are_runs (g.S.DotSet.contents s) (g.met.S.DotSet.within s)).maximal c.in-Some-Some.run' (sym c.in-Some-Some.ensures)) in
    omega (arith, e)

pub comparing-preserved : goal.comparing-preserved
comparing-preserved g c = λ e.
    let l = g.S.DotSet.contents c.args.left.now in
    let r = g.S.DotSet.contents c.args.right.now in
    let one = one_run_of c.in-Some-Some.run' c.in-Some-Some.other c.if-ne.ensures in
    c.comparing.invariant (same_left c.comparing.after (runs_of l) (runs_of r)
    (are_runs l (g.met.S.DotSet.within c.args.left.now)).maximal (are_runs r (g.met.S.DotSet.within c.args.right.now)).maximal
    c.in-Some-Some.run' (sym c.in-Some-Some.ensures) (sym c.in-Some-Some.ensures' ∙ ap (λ x. Some x) (sym one)) e)
