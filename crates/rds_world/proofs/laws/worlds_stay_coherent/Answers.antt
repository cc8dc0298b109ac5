use Rattle.rds_world.proofs.Coherent.{coherent_start, event_coherent}
use Rattle.rds_world.proofs.laws.worlds_stay_coherent.Goals as goal

pub returns-clause-start : goal.returns-clause-start
returns-clause-start c = coherent_start

pub returns-clause-step : goal.returns-clause-step
returns-clause-step c = λ w e i ok. event_coherent w i e ok
