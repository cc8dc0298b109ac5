use Rattle.std.proofs.Common.{◌∙◌, ap}
use Rattle.rds_questions.specs.Questions.{QuestionValue, askers_of}
use Rattle.rds_questions.proofs.Brought.{received_fits, received_from}
use Rattle.rds_questions.proofs.receiving.receive.Goals as goal

pub returns-clause-text : goal.returns-clause-text
returns-clause-text g c =
    received_from c.args.question.now c.args.bytes.now c.len.result (c.len.ensures.names ∙ ap (λ (q : QuestionValue). askers_of q) c.question.view_is) c.in_ok-response.response c.in_ok-response.ensures.text
    c.judge.result c.judge.ensures

pub returns-clause-fits : goal.returns-clause-fits
returns-clause-fits g c =
    received_fits c.args.question.now c.args.bytes.now c.len.result (c.len.ensures.names ∙ ap (λ (q : QuestionValue). askers_of q) c.question.view_is) c.in_ok-response.response c.in_ok-response.ensures.text
    c.judge.result c.judge.ensures
