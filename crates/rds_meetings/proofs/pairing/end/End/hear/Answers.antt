use Rattle.std.proofs.Common.{arith, refl, ◌∙◌}
use Rattle.rds_meetings.proofs.Hearing.{all_came, end_came, more_came, none_came}
use Rattle.rds_meetings.proofs.pairing.end.End.hear.Goals as goal

pub reads-init : goal.reads-init
reads-init g c = (λ side kept is. is, λ side kept first said is. is, none_came c.args.count _, refl)

pub returns-in_err-heard-clause-end : goal.returns-in_err-heard-clause-end
returns-in_err-heard-clause-end g c = λ side kept is. c.hear_some.ensures.end side kept (c.reads.invariant.0 side kept is)

pub returns-in_err-heard-clause-hears : goal.returns-in_err-heard-clause-hears
returns-in_err-heard-clause-hears g c = λ side kept first said is. c.hear_some.ensures.hears side kept first said (c.reads.invariant.1 side kept first said is)

pub returns-then-heard-eq0-clause-end : goal.returns-then-heard-eq0-clause-end
returns-then-heard-eq0-clause-end g c = λ side kept is. c.hear_some.ensures.end side kept (c.reads.invariant.0 side kept is)

pub returns-then-heard-eq0-clause-hears : goal.returns-then-heard-eq0-clause-hears
returns-then-heard-eq0-clause-hears g c = λ side kept first said is. c.hear_some.ensures.hears side kept first said (c.reads.invariant.1 side kept first said is)

pub returns-then-heard-eq0-clause-all : goal.returns-then-heard-eq0-clause-all
returns-then-heard-eq0-clause-all g c =
    let came = c.in_ok-heard.ensures.came in
    end_came c.args.count _ _ _ _ c.args.self.now _ c.hear_some.new.self c.reads.invariant.2 c.reads.invariant.1 came.0 came.1 (c.in_ok-heard.ensures.last c.if-heard-eq0.true)

pub returns-clause-end : goal.returns-clause-end
returns-clause-end g c = c.reads.invariant.0

pub returns-clause-hears : goal.returns-clause-hears
returns-clause-hears g c = c.reads.invariant.1

pub returns-clause-all : goal.returns-clause-all
returns-clause-all g c = all_came c.args.count _ _ _ c.args.self.now _ c.reads.invariant.2 (omega (arith, c.reads-test.false))

pub reads-preserved : goal.reads-preserved
reads-preserved g c =
    let came = c.in_ok-heard.ensures.came in (
      λ side kept is. c.hear_some.ensures.end side kept (c.reads.invariant.0 side kept is),
      λ side kept first said is. c.hear_some.ensures.hears side kept first said (c.reads.invariant.1 side kept first said is),
      more_came c.args.count _ c.in_ok-heard.heard _ _ _ c.reads.invariant.2 came.0 came.1 came.2 c.in_ok-heard.ensures.within,
      c.hear_some.ensures.shut ∙ c.reads.invariant.3,
    )
