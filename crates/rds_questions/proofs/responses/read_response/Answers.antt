use Rattle.std.proofs.Common.{◌∙◌, ap, max, arith}
use Rattle.std.proofs.lemmas.Result.{err_from_is_err_and}
use Rattle.rds_questions.proofs.Whole.{answer_fails}
use Rattle.rds_questions.proofs.responses.read_response.Goals as goal

pub returns-in_err-answer : goal.returns-in_err-answer
returns-in_err-answer g c =
    let p = err_from_is_err_and c.from_residual-in_err-answer.result c.from_residual-in_err-answer.ensures.1 in
    rw (p.1, p.2)
    (answer_fails c.args.askers c.args.bytes.now (λ i. omega (arith, c.type_inv.bytes i)) c.requires.within c.in_ok-rest.rest.now c.in_ok-hello.rest.now c.in_ok-tag.rest.now c.in_ok-hello.hello c.in_ok-tag.tag c.in_ok-rest.ensures c.in_ok-hello.ensures c.in_ok-tag.ensures
    c.format_said.result c.max-replicas.result c.format_said.ensures (c.max-replicas.ensures ∙ ap (λ n. max c.args.askers n) c.len.ensures.names) c.in_err-answer.field-0.0 c.in_err-answer.ensures.read)
