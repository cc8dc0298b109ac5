use Rattle.rds_http.proofs.Asking.{answers_read}
use Rattle.rds_http.proofs.pulling.respond_as.Goals as goal

pub returns : goal.returns
returns c =
    answers_read c.args.number c.args.question.now c.args.document.now c.replica.result.now c.in_ok-asked.asked _ c.respond.result
    c.in_ok-asked.ensures.text.value.1 c.asked.view_is c.replica.ensures c.respond.ensures
