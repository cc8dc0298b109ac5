use Rattle.std.proofs.Common.{Err, inl, subst}
use Rattle.std.proofs.lemmas.Result.{err_from_is_err_and}
use Rattle.rds_offline.specs.Letters.{IsTakenFrom}
use Rattle.rds_questions.specs.Receiving.{ReceivedValue}
use Rattle.rds_questions.specs.Taking.{HeldGives, TakesReceived}
use Rattle.rds_state.specs.Fits.{ReplicaValue}
use Rattle.rds_store.proofs.ChangeLemmas.{noted, take_made}
use Rattle.rds_store.proofs.Taken.{Has, is_taken, no_copy, not_taken}
use Rattle.rds_store.proofs.meeting.take_in.Goals as goal

pub returns-in_err-judge_held-clause-fault : goal.returns-in_err-judge_held-clause-fault
returns-in_err-judge_held-clause-fault c =
    let p = err_from_is_err_and c.from_residual.result c.from_residual.ensures.1 in
    rw (p.1, p.2) (inl (subst (λ (v : ReplicaValue). HeldGives {T = Unit {0}} c.args.question.now v (Err c.in_err-judge_held.field-0.0)) c.replica.ensures c.in_err-judge_held.ensures))

pub returns-in_err-make_room-clause-fault : goal.returns-in_err-make_room-clause-fault
returns-in_err-make_room-clause-fault c =
    let p = err_from_is_err_and c.from_residual-in_err-make_room.result c.from_residual-in_err-make_room.ensures.1 in
    let has = subst (λ (v : ReplicaValue). Has c.args.question.now v) c.replica.ensures c.in_ok-judge_held.ensures in
    rw (p.1, p.2) (no_copy c.args.question.now c.args.received c.args.document.now c.in_err-make_room.field-0.0 has c.in_err-make_room.ensures.memory)

pub returns-in_err-grew-clause-fault : goal.returns-in_err-grew-clause-fault
returns-in_err-grew-clause-fault c =
    let p = err_from_is_err_and c.from_residual-in_err-grew.result c.from_residual-in_err-grew.ensures.1 in
    let has = subst (λ (v : ReplicaValue). Has c.args.question.now v) c.replica.ensures c.in_ok-judge_held.ensures in
    let x : ReceivedValue = record { delta = c.received.inside.delta; roster = c.received.inside.roster; certificate = c.received.inside.certificate; tag = c.received.inside.tag } in
    rw (p.1, p.2)
    (subst (λ (y : ReceivedValue). TakesReceived c.args.question.now c.args.document.now y (Err c.in_err-grew.field-0.0)) c.received.view_is
    (not_taken c.args.question.now x c.args.document.now c.take_with.new.self c.in_err-grew.field-0.0 has c.in_err-grew.ensures.taken))

pub returns-clause-since : goal.returns-clause-since
returns-clause-since c =
    noted c.make_room.new.self c.note.new.self c.args.document.now c.take_with.new.self c.in_ok-grew.grew c.received.inside.delta (c.make_room.ensures.since c.args.document.now c.requires.since) c.note.ensures
    (take_made c.args.document.now c.take_with.new.self c.received.inside.roster c.received.inside.delta c.in_ok-grew.grew c.in_ok-grew.ensures.taken c.in_ok-grew.ensures.grew)

pub returns-clause-taken : goal.returns-clause-taken
returns-clause-taken c =
    let x : ReceivedValue = record { delta = c.received.inside.delta; roster = c.received.inside.roster; certificate = c.received.inside.certificate; tag = c.received.inside.tag } in
    subst (λ (y : ReceivedValue). IsTakenFrom y c.args.document.now c.take_with.new.self) c.received.view_is (is_taken x c.args.document.now c.take_with.new.self c.in_ok-grew.ensures.taken)
