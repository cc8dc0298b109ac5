use Rattle.std.proofs.Common.{◌∙◌}
use Rattle.std.proofs.lemmas.Result.{err_from_is_err_and}
use Rattle.rds_offline.proofs.Lettered.{answers_file, no_answer}
use Rattle.rds_offline.proofs.letters.answer_file.Goals as goal

pub returns-in_err-bytes-clause-fault : goal.returns-in_err-bytes-clause-fault
returns-in_err-bytes-clause-fault g c =
    let p = err_from_is_err_and c.from_residual-in_err-bytes.result c.from_residual-in_err-bytes.ensures.1 in
    let same = c.view_of-held.ensures.replica ∙ c.kept.ensures in
    rw (p.1, p.2) (no_answer c.args.path.now c.args.question.now c.in_ok-asked.asked c.in_ok-file.file _ c.in_ok-asked.ensures.text.value c.in_ok-file.ensures.read same c.in_err-bytes.field-0.0 c.in_err-bytes.ensures)

pub returns-clause-answered : goal.returns-clause-answered
returns-clause-answered g c =
    let same = c.view_of-held.ensures.replica ∙ c.kept.ensures in
    answers_file c.args.path.now c.args.question.now c.in_ok-asked.asked c.in_ok-file.file _ c.in_ok-asked.ensures.text.value c.in_ok-file.ensures.read same c.in_ok-bytes.bytes c.in_ok-bytes.ensures
