use Rattle.std.proofs.Common.{refl}
use Rattle.std.proofs.lemmas.Bool.{false≢true}
use Rattle.rds_codec.proofs.Parts.{unmarked, are_marked}
use Rattle.rds_codec.proofs.digests.LiveAreSeenMakingTuple2SeenDotsSeenDots.make.Goals as goal

pub returns-then-not-is_inside-clause-err : goal.returns-then-not-is_inside-clause-err
returns-then-not-is_inside-clause-err g c =
    let s = g.S.DotSet.contents in
    unmarked (s c.into_set-seen.result) (s c.into_set-live.result) c.args.whole c.into_set-seen.ensures c.into_set-live.ensures (λ is. false≢true (c.if-not-is_inside.ensures.1 is))

pub returns-clause-ok : goal.returns-clause-ok
returns-clause-ok g c =
    let s = g.S.DotSet.contents in
    are_marked (s c.into_set-seen.result) (s c.into_set-live.result) c.args.whole c.into_set-seen.ensures c.into_set-live.ensures (c.if-not-is_inside.ensures.0 refl)
