use Rattle.std.proofs.Common.{◌≡◌, ◌∙◌, ap, arith}
use Rattle.std.specs.FinMap as map
use Rattle.std.specs.FinSet as set
use Rattle.rds_state.specs.Value.{StateValue}
use Rattle.rds_state.proofs.Sizes.{len-seen_of}
use Rattle.rds_state.proofs.state.State.components.Goals as goal

pub returns : goal.returns
returns g c =
    let dots : c.count-dots.result ≡ map.len c.self.inside.lives = c.count-dots.ensures ∙ ap (λ s. set.len s) c.seen.ensures ∙ len-seen_of c.self.inside.lives in
    let lives = ap (λ (v : StateValue). map.len v.lives) c.self.view_is in
    let counts = ap (λ (v : StateValue). map.len v.counts) c.self.view_is in
    let from = c.from.ensures in
    let numbers = c.components-numbers.ensures.size in
    omega (arith, from, dots, lives, counts, numbers)
