use Rattle.std.proofs.Common.{◌≡◌, subst}
use Rattle.std.specs.Prelude.{string_bytes, IfOk}
use Rattle.rds_listing.specs.Evidence.{evidence_text}
use Rattle.rds_questions.specs.Receiving.{ReceivedValue}
use Rattle.std.proofs.lemmas.Result.{err_from_is_err_and}
use Rattle.rds_offline.proofs.Lettered.{brings_nothing, checks_texts, no_brought}
use Rattle.rds_offline.proofs.letters.check_texts.Goals as goal

pub returns-in_err-received-clause-fault : goal.returns-in_err-received-clause-fault
returns-in_err-received-clause-fault c =
    let p = err_from_is_err_and c.from_residual-in_err-received.result c.from_residual-in_err-received.ensures.1 in
    rw (p.1, p.2) (no_brought c.args.question.now c.args.answer.now c.in_ok-asked.asked c.in_err-received.field-0.0 c.in_ok-asked.ensures.text.value
    (brings_nothing c.in_ok-asked.asked c.args.answer.now c.in_err-received.field-0.0 c.in_err-received.ensures.long c.in_err-received.ensures.read))

pub returns-clause-told : goal.returns-clause-told
returns-clause-told c =
    checks_texts string_bytes c.args.question.now c.args.answer.now c.in_ok-asked.asked c.in_ok-received.received c.evidence.result c.in_ok-asked.ensures.text.value c.in_ok-received.ensures.text
    (subst (λ (x : ReceivedValue). IfOk c.evidence.result (λ text. string_bytes text ≡ evidence_text x.roster x.delta x.certificate)) c.received.view_is c.evidence.ensures.text)
