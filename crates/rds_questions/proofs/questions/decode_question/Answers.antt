use Rattle.std.proofs.Common.{arith}
use Rattle.std.proofs.lemmas.Result.{err_from_is_err_and}
use Rattle.rds_questions.proofs.Decoded.{asker_refused, decoded, undecoded}
use Rattle.rds_questions.proofs.questions.decode_question.Goals as goal

pub returns-in_err-hello-clause-text : goal.returns-in_err-hello-clause-text
returns-in_err-hello-clause-text g c =
    let p = err_from_is_err_and c.from_residual.result c.from_residual.ensures.1 in
    rw (p.1, p.2)
    (asker_refused c.args.bytes.now (λ i. omega (arith, c.type_inv.bytes i)) c.if-bytes-gt-LIMIT.false c.in_err-hello.field-0.0 c.in_err-hello.ensures)

pub returns-in_err-digest-clause-text : goal.returns-in_err-digest-clause-text
returns-in_err-digest-clause-text g c =
    let p = err_from_is_err_and c.from_residual-in_err-digest.result c.from_residual-in_err-digest.ensures.1 in
    rw (p.1, p.2)
    (undecoded c.args.bytes.now (λ i. omega (arith, c.type_inv.bytes i)) c.if-bytes-gt-LIMIT.false c.in_ok-hello.hello c.in_ok-hello.rest.now c.in_ok-hello.ensures c.len.result c.len.ensures.names
    c.in_err-digest.field-0.0 c.in_err-digest.ensures.text)

pub returns-clause-text : goal.returns-clause-text
returns-clause-text g c =
    decoded c.args.bytes.now (λ i. omega (arith, c.type_inv.bytes i)) c.if-bytes-gt-LIMIT.false c.in_ok-hello.hello c.in_ok-hello.rest.now c.in_ok-hello.ensures c.len.result c.len.ensures.names
    c.in_ok-digest.digest c.in_ok-digest.ensures.text
