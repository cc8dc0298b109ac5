use Rattle.std.proofs.Common.{◌≡◌, ◌∙◌, ap, arith}
use Rattle.std.specs.FinMap as map
use Rattle.rds_life.proofs.NothingSeen.{agrees_nothing}
use Rattle.rds_state.specs.Value.{StateValue}
use Rattle.rds_state.proofs.state.State.merge.Goals as goal

pub returns-in-Some-clause-nothing : goal.returns-in-Some-clause-nothing
returns-in-Some-clause-nothing g c = λ none.
    let first : map.len c.args.other.now.lives ≡ 0 = omega (arith, none) in
    let there : map.len c.other.inside.lives ≡ 0 = ap (λ (v : StateValue). map.len v.lives) c.other.view_is ∙ first in
    absurd (c.in-Some.ensures.here (agrees_nothing c.self.inside.lives c.other.inside.lives there c.in-Some.dot))
