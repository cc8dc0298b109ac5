use Rattle.std.proofs.Common.{◌≡◌, ◌∙◌, ap, false, inl, inr, is_some, sym, true}
use mathlib.Core.Bool.{false≢true}
use Rattle.rds_commands.specs.Calls.{calls_site}
use Rattle.rds_commands.proofs.program.run_task.Goals as goal

pub returns-in-Some-clause-join : goal.returns-in-Some-clause-join
returns-in-Some-clause-join g c = λ is.
    let called : calls_site c.args.task ≡ true = sym c.of.ensures.called ∙ ap is_some c.in-Some.is in
    absurd (false≢true (sym (ap calls_site is) ∙ called))

pub returns-in-Some-clause-sim : goal.returns-in-Some-clause-sim
returns-in-Some-clause-sim g c = λ is.
    let called : calls_site c.args.task ≡ true = sym c.of.ensures.called ∙ ap is_some c.in-Some.is in
    absurd (false≢true (sym (ap calls_site is) ∙ called))

pub returns-in-Some-clause-written : goal.returns-in-Some-clause-written
returns-in-Some-clause-written g c = λ wrote.
    let called : calls_site c.args.task ≡ true = sym c.of.ensures.called ∙ ap is_some c.in-Some.is in
    inr (called, rw (← c.in-Some.ensures.form) (c.run_call.ensures.written wrote))

pub returns-in-None-clause-written : goal.returns-in-None-clause-written
returns-in-None-clause-written g c = λ wrote.
    let here : calls_site c.args.task ≡ false = sym c.of.ensures.called ∙ ap is_some c.in-None.is in
    inl (here, c.run_here.ensures.written wrote)
