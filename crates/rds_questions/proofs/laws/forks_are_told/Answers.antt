use Rattle.rds_questions.proofs.Forked.{forks_told, no_others_told}
use Rattle.rds_questions.proofs.laws.forks_are_told.Goals as goal

pub returns : goal.returns
returns c = record { told = forks_told; only = no_others_told }
