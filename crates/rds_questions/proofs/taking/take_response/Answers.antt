use Rattle.std.proofs.Common.{arith, inl, inr, length, subst, sym}
use Rattle.std.proofs.lemmas.Result.{err_from_is_err_and}
use Rattle.rds_names.specs.Roster.{RosterValue}
use Rattle.rds_state.proofs.FitsLemmas.{fits_more}
use Rattle.rds_state.specs.Fits.{Fits}
use Rattle.rds_state.specs.Value.{coordinates}
use Rattle.rds_questions.specs.Receiving.{ReceivedValue}
use Rattle.rds_questions.specs.Taking.{TakesReceived}
use Rattle.rds_questions.proofs.Taken.{grown, on_ok, takes}
use Rattle.rds_questions.proofs.taking.take_response.Goals as goal

pub returns-clause-takes : goal.returns-clause-takes
returns-clause-takes g c =
    let q = c.args.question.now in
    let held = c.args.held.now in
    let h = c.in_ok-judge_held.ensures in
    let x : ReceivedValue = record { delta = c.received.inside.delta; roster = c.received.inside.roster; certificate = c.received.inside.certificate; tag = c.received.inside.tag } in
    subst (λ (y : ReceivedValue). TakesReceived q held y c.take_with.result) c.received.view_is
    (takes q held h.0 h.1 x c.in_ok-roster.roster c.in_ok-roster.ensures.ok c.take_with.result c.take_with.ensures.gives)

pub returns-clause-asked : goal.returns-clause-asked
returns-clause-asked g c =
    let h = c.in_ok-judge_held.ensures in
    on_ok c.take_with.result (λ asked e. grown c.args.question.now c.args.held.now h.0 h.1 asked e)

pub take_with-requires : goal.take_with-requires
take_with-requires g c =
    let x : ReceivedValue = record { delta = c.received.inside.delta; roster = c.received.inside.roster; certificate = c.received.inside.certificate; tag = c.received.inside.tag } in
    let fits : Fits (length x.roster.names) (coordinates x.delta) = subst (λ (y : ReceivedValue). Fits (length y.roster.names) (coordinates y.delta)) (sym c.received.view_is) c.requires.fits in
    fits_more _ _ _ (omega arith) (subst (λ (r : RosterValue). Fits (length r.names) (coordinates x.delta)) (sym c.in_ok-roster.ensures.ok) fits)

pub returns-in_err-roster-clause-takes : goal.returns-in_err-roster-clause-takes
returns-in_err-roster-clause-takes g c =
    let p = err_from_is_err_and c.from_residual-in_err-roster.result c.from_residual-in_err-roster.ensures.1 in
    rw (p.1, p.2) (inr (c.in_ok-judge_held.ensures, inl c.in_err-roster.ensures.memory))
