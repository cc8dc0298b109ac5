use Rattle.rds_world.proofs.Rosters.{rosters_start, event_rosters}
use Rattle.rds_world.proofs.laws.rosters_grow.Goals as goal

pub returns-clause-start : goal.returns-clause-start
returns-clause-start c = rosters_start

pub returns-clause-step : goal.returns-clause-step
returns-clause-step c = λ w e i ok. event_rosters w i e ok
