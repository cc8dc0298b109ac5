use Rattle.rds_questions.proofs.Meeting.{replicas_ask_well}
use Rattle.rds_questions.proofs.laws.replicas_ask_well.Goals as goal

pub returns : goal.returns
returns c = replicas_ask_well
