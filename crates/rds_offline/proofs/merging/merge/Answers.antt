use Rattle.std.proofs.Common.{◌∙◌, ap, ap₂, rules}
use Rattle.rds_delta.specs.Least.{least}
use Rattle.rds_delta.specs.Ranks.{ranks}
use Rattle.rds_state.specs.Value.{StateValue, coordinates}
use Rattle.rds_offline.proofs.Lacking.{lacking_fits, lacking_joined}
use Rattle.rds_offline.proofs.merging.merge.Goals as goal

pub returns-clause-lacking : goal.returns-clause-lacking
returns-clause-lacking g c =
    c.in_ok-lacking.ensures.ok
    ∙ ap₂ least (ap coordinates c.state-2.ensures.state) (c.in_ok-digest.ensures.ranks ∙ ap (λ (v : StateValue). ranks (coordinates v)) c.state.ensures.state)

pub returns-clause-joined : goal.returns-clause-joined
returns-clause-joined g c = lacking_joined c.args.source.now c.args.held.now c.take_with.new.self c.in_ok-lacking.lacking (returns-clause-lacking g c) (search rules)

pub returns-clause-fits : goal.returns-clause-fits
returns-clause-fits g c = lacking_fits c.args.source.now c.args.held.now c.take_with.new.self c.in_ok-lacking.lacking (returns-clause-lacking g c) c.state-2.ensures.fits (search rules)
