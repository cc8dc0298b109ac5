use Rattle.std.proofs.lemmas.Result.{err_from_is_err_and}
use Rattle.rds_offline.proofs.Lettered.{brings_nothing}
use Rattle.rds_store.proofs.Taken.{no_bytes, refuses_all, takes_all}
use Rattle.rds_store.proofs.meeting.take_answer.Goals as goal

pub returns-in_err-received-clause-fault : goal.returns-in_err-received-clause-fault
returns-in_err-received-clause-fault c =
    let p = err_from_is_err_and c.from_residual-in_err-received.result c.from_residual-in_err-received.ensures.1 in
    rw (p.1, p.2) (no_bytes c.args.question.now c.args.answer.now c.in_ok-asked.asked c.in_ok-asked.ensures.text.value c.args.document.now c.in_err-received.field-0.0
    (brings_nothing c.in_ok-asked.asked c.args.answer.now c.in_err-received.field-0.0 c.in_err-received.ensures.long c.in_err-received.ensures.read))

pub returns-clause-taken : goal.returns-clause-taken
returns-clause-taken c =
    let e = c.take_in.ensures in
    takes_all c.args.question.now c.args.answer.now c.in_ok-asked.asked c.in_ok-asked.ensures.text.value c.in_ok-received.received c.in_ok-received.ensures.text c.args.document.now c.take_in.result c.take_in.new.document
    e.replica e.has_all e.taken e.count

pub returns-clause-fault : goal.returns-clause-fault
returns-clause-fault c =
    refuses_all c.args.question.now c.args.answer.now c.in_ok-asked.asked c.in_ok-asked.ensures.text.value c.in_ok-received.received c.in_ok-received.ensures.text c.args.document.now c.take_in.result c.take_in.ensures.fault
