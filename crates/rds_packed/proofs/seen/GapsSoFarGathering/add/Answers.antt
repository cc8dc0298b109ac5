use Rattle.std.proofs.Common.{◌≡◌, ap, arith}
use Rattle.rds_feeds.specs.SeenDots.{GapsValue}
use Rattle.rds_packed.proofs.SeenWithin.{gap_within}
use Rattle.rds_packed.proofs.seen.GapsSoFarGathering.add.Goals as goal

pub insert_before-requires-clause-within : goal.insert_before-requires-clause-within
insert_before-requires-clause-within g c =
    let read = gap_within c.args.self.now.top c.args.self.now.before c.requires.0 c.args.part c.requires.1 c.requires.2 in
    let top : c.self.inside.top ≡ c.args.self.now.top = ap (λ (v : GapsValue). v.top) c.self.view_is in
    let most = c.self.invariant.1 in
    omega (arith, read.0, read.1, top, most)

pub invariant_of-self-2 : goal.invariant_of-self-2
invariant_of-self-2 g c =
    let read = gap_within c.args.self.now.top c.args.self.now.before c.requires.0 c.args.part c.requires.1 c.requires.2 in
    let top : c.self.inside.top ≡ c.args.self.now.top = ap (λ (v : GapsValue). v.top) c.self.view_is in
    (omega (arith, read.1, top), c.self.invariant.1)
