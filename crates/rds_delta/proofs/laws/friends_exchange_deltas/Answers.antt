use Rattle.std.proofs.Common.{◌∙◌, ap}
use Rattle.rds_state.specs.Coordinates.{join}
use Rattle.rds_state.specs.Value.{coordinates}
use Rattle.rds_delta.specs.Ranks.{ranks}
use Rattle.rds_delta.proofs.LeastLaws.{grown_delta}
use Rattle.rds_delta.proofs.Exchanges.{least_fits, least_is_taken}
use Rattle.rds_delta.proofs.laws.friends_exchange_deltas.Goals as goal

pub returns-clause-fits : goal.returns-clause-fits
returns-clause-fits c = λ replicas a asked. least_fits replicas a (ranks asked)

pub returns-clause-taken : goal.returns-clause-taken
returns-clause-taken c = λ left right a b d asked. least_is_taken left right a b d (ranks asked)

pub returns-clause-joins : goal.returns-clause-joins
returns-clause-joins c = λ a b d asked most is. ap (join (coordinates b)) is ∙ grown_delta (coordinates a) asked (coordinates b) most
