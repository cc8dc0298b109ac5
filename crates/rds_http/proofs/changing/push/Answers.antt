use Rattle.std.proofs.Common.{ap}
use Rattle.rds_http.specs.Changes.{IsOfAsked}
use Rattle.rds_http.proofs.Asking.{at_some, takes_tagged}
use Rattle.rds_http.proofs.Changed.{on_ok}
use Rattle.rds_http.proofs.changing.push.Goals as goal

pub returns-in-Ok-Some-clause-answered : goal.returns-in-Ok-Some-clause-answered
returns-in-Ok-Some-clause-answered g c =
    let asked : IsOfAsked c.args.body.now c.in-Ok-Some.question.items c.in-Ok-Some.answer.now =
    at_some c.in-Ok-Some.field-0 (c.in-Ok-Some.question, c.in-Ok-Some.answer)
    (λ found. IsOfAsked c.args.body.now found.0.items found.1.now) c.in-Ok-Some.field-0-is c.in-Ok-Some.ensures.some in
    on_ok c.take_texts.result
    (takes_tagged c.args.body.now c.in-Ok-Some.question.items c.deref.result.now c.in-Ok-Some.answer.now
    c.args.held.now.file.document c.asked_at.new.self.document c.take_texts.new.held.file.document c.take_texts.new.response
    asked c.deref.ensures.value (ap (λ f. f.document) c.in-Ok-Some.ensures.same))
    c.take_texts.ensures.answered
