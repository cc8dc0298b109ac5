use Rattle.rds_store.proofs.Taken.{answers}
use Rattle.rds_store.proofs.meeting.respond_to.Goals as goal

pub returns : goal.returns
returns c = answers c.args.question.now c.args.held.now c.in_ok-asked.asked c.respond.result c.in_ok-asked.ensures.text.value c.respond.ensures
