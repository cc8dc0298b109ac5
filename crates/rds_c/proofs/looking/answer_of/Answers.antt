use Rattle.rds_c.proofs.Done.{responds}
use Rattle.rds_c.proofs.looking.answer_of.Goals as goal

pub returns : goal.returns
returns c = responds c.args.question.now c.args.document.now c.answer.result c.answer.ensures
