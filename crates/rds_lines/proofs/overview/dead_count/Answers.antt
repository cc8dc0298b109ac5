use Rattle.std.proofs.Common.{◌≡◌, ◌∙◌, ap, arith}
use Rattle.std.specs.FinMap as map
use Rattle.std.specs.FinSet as set
use Rattle.rds_state.proofs.Sizes.{len-seen_of}
use Rattle.rds_lines.proofs.Overviews.{dead_are}
use Rattle.rds_lines.proofs.overview.dead_count.Goals as goal

pub returns : goal.returns
returns g c =
    let dots : c.count.result ≡ map.len c.args.lives.now = c.count.ensures ∙ ap (λ s. set.len s) c.seen.ensures ∙ len-seen_of c.args.lives.now in
    let live = c.live_len-live.ensures in
    let rest = c.saturating_sub.ensures in
    omega (arith, dots, live, rest, dead_are c.args.lives.now)
