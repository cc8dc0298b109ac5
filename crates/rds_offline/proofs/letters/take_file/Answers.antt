use Rattle.std.proofs.Common.{inl, inr}
use Rattle.std.proofs.lemmas.Result.{err_from_is_err_and}
use Rattle.rds_offline.proofs.Lettered.{brings_nothing, no_bytes, no_response, takes_file}
use Rattle.rds_offline.proofs.letters.take_file.Goals as goal

pub returns-in_err-received-clause-fault : goal.returns-in_err-received-clause-fault
returns-in_err-received-clause-fault g c =
    let p = err_from_is_err_and c.from_residual-in_err-received.result c.from_residual-in_err-received.ensures.1 in
    rw (p.1, p.2) (no_bytes c.args.path.now c.args.question.now c.args.answer.now c.in_ok-asked.asked c.in_ok-asked.ensures.text.value c.in_err-received.field-0.0
    (brings_nothing c.in_ok-asked.asked c.args.answer.now c.in_err-received.field-0.0 c.in_err-received.ensures.long c.in_err-received.ensures.read))

pub returns-in_err-opened-clause-fault : goal.returns-in_err-opened-clause-fault
returns-in_err-opened-clause-fault g c =
    let p = err_from_is_err_and c.from_residual-in_err-opened.result c.from_residual-in_err-opened.ensures.1 in
    rw (p.1, p.2) (inr (inr (inl c.in_err-opened.ensures.fault)))

pub returns-in_err-done-clause-fault : goal.returns-in_err-done-clause-fault
returns-in_err-done-clause-fault g c =
    let p = err_from_is_err_and c.from_residual-in_err-done.result c.from_residual-in_err-done.ensures.1 in
    rw (p.1, p.2) (no_response c.args.path.now c.args.question.now c.args.answer.now c.in_ok-asked.asked c.in_ok-asked.ensures.text.value c.in_ok-received.received c.in_ok-received.ensures.text
    c.in_ok-opened.opened c.in_ok-opened.ensures.held c.in_err-done.field-0.0 c.in_err-done.ensures.fault)

pub returns-clause-taken : goal.returns-clause-taken
returns-clause-taken g c =
    takes_file c.args.path.now c.args.question.now c.args.answer.now c.in_ok-asked.asked c.in_ok-asked.ensures.text.value c.in_ok-received.received c.in_ok-received.ensures.text
    c.in_ok-opened.opened c.in_ok-opened.ensures.held c.in_ok-done.done.file c.in_ok-done.done.components c.in_ok-done.done.forked c.in_ok-done.ensures.path c.in_ok-done.ensures.before c.in_ok-done.ensures.replica
    c.in_ok-done.ensures.has_all c.in_ok-done.ensures.taken c.in_ok-done.ensures.count c.in_ok-done.ensures.forked
