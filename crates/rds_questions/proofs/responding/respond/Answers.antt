use Rattle.std.proofs.Common.{◌∙◌, ap, sym, subst}
use Rattle.std.proofs.lemmas.Result.{err_from_is_err_and}
use Rattle.rds_questions.specs.Questions.{QuestionValue}
use Rattle.rds_questions.specs.Responding.{RespondGives, hello_to}
use Rattle.rds_questions.specs.Responses.{answerer_text}
use Rattle.rds_questions.specs.Tags.{tag_of}
use Rattle.rds_questions.proofs.Written.{answer_lost, greeted_as, response_written, tag_lost}
use Rattle.rds_questions.proofs.responding.respond.Goals as goal

pub returns-in_err-answer : goal.returns-in_err-answer
returns-in_err-answer g c =
    let p = err_from_is_err_and c.from_residual-in_err-answer.result c.from_residual-in_err-answer.ensures.1 in
    let v = c.args.held.now in
    let q : QuestionValue = record { hello = c.question.inside.hello; digest = c.question.inside.digest } in
    subst (λ (x : QuestionValue). RespondGives x v c.from_residual-in_err-answer.result) c.question.view_is
    (rw (p.1, p.2) (answer_lost q v c.format_said-format.result c.state.result.now c.format_said-format.ensures c.state.ensures.state
    (greeted_as c.roster.result.now c.own.result v q c.roster.ensures c.own.ensures.own c.in_ok-greet.ensures) c.in_err-answer.field-0.0 c.in_err-answer.ensures.fault))

pub returns-in_err-answerer : goal.returns-in_err-answerer
returns-in_err-answerer g c =
    let p = err_from_is_err_and c.from_residual-in_err-answerer.result c.from_residual-in_err-answerer.ensures.1 in
    let v = c.args.held.now in
    let q : QuestionValue = record { hello = c.question.inside.hello; digest = c.question.inside.digest } in
    subst (λ (x : QuestionValue). RespondGives x v c.from_residual-in_err-answerer.result) c.question.view_is
    (rw (p.1, p.2) (tag_lost q v (greeted_as c.roster.result.now c.own.result v q c.roster.ensures c.own.ensures.own c.in_ok-greet.ensures) c.in_err-answerer.field-0.0 c.in_err-answerer.ensures.fault))

pub returns : goal.returns
returns g c =
    let v = c.args.held.now in
    let q : QuestionValue = record { hello = c.question.inside.hello; digest = c.question.inside.digest } in
    let answerer = c.deref.ensures.value ∙ c.in_ok-answerer.ensures.text ∙ ap (λ (x : QuestionValue). answerer_text (hello_to x v) (tag_of v)) (sym c.question.view_is) in
    subst (λ (x : QuestionValue). RespondGives x v c.whole_text.result) c.question.view_is
    (response_written q v c.format_said-format.result c.state.result.now c.format_said-format.ensures c.state.ensures.state
    (greeted_as c.roster.result.now c.own.result v q c.roster.ensures c.own.ensures.own c.in_ok-greet.ensures)
    c.deref.result.now c.in_ok-answer.answer.items c.deref-2.result.now c.in_ok-answer.field-0-1 answerer c.deref-2.ensures.value c.in_ok-answer.ensures.ok c.whole_text.result c.whole_text.ensures)
