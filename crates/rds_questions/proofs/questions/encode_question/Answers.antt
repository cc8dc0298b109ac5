use Rattle.std.proofs.Common.{◌∙◌, subst}
use Rattle.std.proofs.lemmas.Result.{err_from_is_err_and}
use Rattle.rds_codec.specs.FormatWriting.{EncodesTabled}
use Rattle.rds_questions.specs.Questions.{QuestionValue, question_text}
use Rattle.rds_questions.proofs.Written.{question_lost, question_written}
use Rattle.rds_questions.proofs.questions.encode_question.Goals as goal

pub returns-in_err-brief : goal.returns-in_err-brief
returns-in_err-brief g c =
    let p = err_from_is_err_and c.from_residual-in_err-brief.result c.from_residual-in_err-brief.ensures.1 in
    let q : QuestionValue = record { hello = c.question.inside.hello; digest = c.question.inside.digest } in
    subst (λ (x : QuestionValue). EncodesTabled (question_text x) c.from_residual-in_err-brief.result) c.question.view_is
    (rw (p.1, p.2) (question_lost q c.in_err-brief.field-0.0 c.in_err-brief.ensures))

pub returns : goal.returns
returns g c =
    let q : QuestionValue = record { hello = c.question.inside.hello; digest = c.question.inside.digest } in
    subst (λ (x : QuestionValue). EncodesTabled (question_text x) c.whole_text.result) c.question.view_is
    (question_written q c.deref.result.now c.deref-2.result.now (c.deref.ensures.value ∙ c.in_ok-hello.ensures.text.0) (c.deref-2.ensures.value ∙ c.in_ok-brief.ensures.0) c.whole_text.result c.whole_text.ensures)
