use Rattle.rds_state.specs.Value.{coordinates}
use Rattle.rds_delta.proofs.Sizes.{size_at_most}
use Rattle.rds_delta.proofs.LeastLaws as laws
use Rattle.rds_delta.proofs.laws.checked_delta_laws.Goals as goal

pub returns-clause-compatible : goal.returns-clause-compatible
returns-clause-compatible c = λ d b h. laws.compatible_sym d b (laws.above_agrees d b h)

pub returns-clause-below : goal.returns-clause-below
returns-clause-below c = λ d b x h k e. laws.above_below d b x h e

pub returns-clause-least : goal.returns-clause-least
returns-clause-least c = laws.own_least

pub returns-clause-fewest : goal.returns-clause-fewest
returns-clause-fewest c = λ d b x h k e. size_at_most d x (laws.above_below (coordinates d) (coordinates b) (coordinates x) h e)
