use Rattle.std.proofs.Common.{◌∙◌, ap}
use Rattle.rds_http.specs.Changes.{IsOfAsked}
use Rattle.rds_http.proofs.Asking.{answers_tagged, at_some}
use Rattle.rds_http.proofs.Changed.{on_ok}
use Rattle.rds_http.proofs.pulling.pull.Goals as goal

pub returns-in-Some-clause-answered : goal.returns-in-Some-clause-answered
returns-in-Some-clause-answered g c =
    let asked : IsOfAsked c.args.body.now c.in-Ok-Some.question.items c.in-Ok-Some.rest.now =
    at_some c.in-Ok-Some.field-0 (c.in-Ok-Some.question, c.in-Ok-Some.rest)
    (λ found. IsOfAsked c.args.body.now found.0.items found.1.now) c.in-Ok-Some.field-0-is c.in-Ok-Some.ensures.some in
    on_ok c.answer_as.result
    (answers_tagged c.args.body.now c.in-Ok-Some.question.items c.deref.result.now c.in-Ok-Some.rest.now c.in-Some.number
    c.args.file.now.document c.document.result.now c.answer_as.new.response asked
    c.in-Some.ensures.some c.deref.ensures.value (c.document.ensures ∙ ap (λ f. f.document) c.in-Ok-Some.ensures.same))
    c.answer_as.ensures
