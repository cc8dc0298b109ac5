-- Questions and answers that go as texts, as events of the model.
use Rattle.rds_offline.proofs.Brought.{Responded, brought, takes_answer}
use Rattle.rds_world.proofs.Open.{answers_now, asked_within_kept}
use Rattle.rds_commands.specs.Letters.{AnswersAreAnswers, QuestionsAreAsks, TakesAreTakes}
use Rattle.rds_commands.proofs.Events.{file_takes, readings_asked}

pub questions_asked : QuestionsAreAsks
questions_asked w path bytes file asks keeps = readings_asked w file.kept keeps

pub answers_answered : AnswersAreAnswers
answers_answered w number asked_path path question bytes asking answering asks asked answers keeps = answers_now w number asking.kept answering.kept asked keeps

pub letters_taken : TakesAreTakes
letters_taken w number components asked_path peer_path path question answer asking answering file forked rosters asks answers answered keeps takes =
    let A = asking.kept in
    let P = answering.kept in
    let responded : Responded question answer P = record { asked = answers.asked; within = answers.within; is_question = answers.is_question; greets = answers.greets; responds = answers.responds } in
    let its = brought A P file.before file.kept question answer components asks.read.value answers.read.value asks.text responded takes.takes in
    let enough = asked_within_kept w number A P file.before rosters answered keeps its.replica.own in
    file_takes w number A P file answered keeps (takes_answer A P file.before file.kept question answer components asks.read.value answers.read.value asks.text responded takes.takes enough)
