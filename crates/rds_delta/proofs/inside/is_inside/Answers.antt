use Rattle.std.proofs.Common.{◌∙◌, refl, sym, subst}
use mathlib.Core.Bool.{false≢true}
use Rattle.rds_dots.specs.Runs.{AreRuns}
use Rattle.rds_delta.proofs.InsideLemmas.{AreLeft, all_left, none_left, first_is_run, first_inside, fewer_left}
use Rattle.rds_delta.proofs.inside.is_inside.Goals as goal

pub testing-init : goal.testing-init
testing-init g c =
    let s = g.S.DotSet.contents c.args.inner.now in
    all_left s (g.S.DotSet.contents c.args.outer.now) c.into_iter-run-iterator.result (subst (AreRuns s) (sym c.into_iter-run-iterator.ensures.into_iter_gives) c.runs-run-items.ensures.maximal)

pub has_run-requires : goal.has_run-requires
has_run-requires g c =
    let s = g.S.DotSet.contents c.args.inner.now in
    let t = g.S.DotSet.contents c.args.outer.now in
    first_is_run s t c.in-Some.run' c.next.new.self (subst (AreLeft s t) c.in-Some.ensures.steps c.testing.invariant)

pub returns-then-not-has_run : goal.returns-then-not-has_run
returns-then-not-has_run g c =
    let s = g.S.DotSet.contents c.args.inner.now in
    let t = g.S.DotSet.contents c.args.outer.now in
    let left = subst (AreLeft s t) c.in-Some.ensures.steps c.testing.invariant in
    (λ h. absurd (false≢true h), λ inside. sym c.if-not-has_run.true ∙ c.has_run.ensures.1 (first_inside s t c.in-Some.run' c.next.new.self left inside))

pub testing-preserved : goal.testing-preserved
testing-preserved g c =
    let s = g.S.DotSet.contents c.args.inner.now in
    let t = g.S.DotSet.contents c.args.outer.now in
    let left = subst (AreLeft s t) c.in-Some.ensures.steps c.testing.invariant in
    fewer_left s t c.in-Some.run' c.next.new.self left (c.has_run.ensures.0 c.if-not-has_run.false)

pub returns : goal.returns
returns g c =
    let s = g.S.DotSet.contents c.args.inner.now in
    let t = g.S.DotSet.contents c.args.outer.now in
    (λ _. none_left s t (subst (AreLeft s t) c.in-None.ensures.steps.0 c.testing.invariant), λ _. refl)
