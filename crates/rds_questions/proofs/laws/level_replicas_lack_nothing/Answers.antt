use Rattle.rds_questions.proofs.Leveled.{level_lack_nothing}
use Rattle.rds_questions.proofs.laws.level_replicas_lack_nothing.Goals as goal

pub returns : goal.returns
returns c = level_lack_nothing
