use Rattle.rds_life.proofs.Bounds.{one_least_above}
use Rattle.rds_life.proofs.LivedLemmas.{one_answer, one_conflict, one_join}
use Rattle.rds_life.proofs.laws.a_merge_of_lives_has_one_result.Goals as goal

pub returns : goal.returns
returns c = record { joins = one_join; least = one_least_above; answers = one_answer; conflicts = one_conflict }
