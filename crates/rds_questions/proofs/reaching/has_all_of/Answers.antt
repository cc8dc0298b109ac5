use Rattle.std.proofs.Common.{◌∙◌, refl, ap}
use Rattle.std.proofs.lemmas.Bool.{false≢true}
use Rattle.rds_life.specs.Life.{live_of, seen_of}
use Rattle.rds_questions.proofs.Reached.{has_all, known_at, seen_here}
use Rattle.rds_questions.proofs.reaching.has_all_of.Goals as goal

pub returns-then-not-is_inside-clause-ok : goal.returns-then-not-is_inside-clause-ok
returns-then-not-is_inside-clause-ok g c =
    let s = g.S.DotSet.contents in
    let seen = c.seen-seen.ensures ∙ ap seen_of c.lives-lives.ensures in
    (λ no. absurd (false≢true no), λ has. c.if-not-is_inside.ensures.1 (seen_here c.args.state.now c.args.digest.now (s c.seen-seen.result.now) (s c.seen-told.result.now) seen c.seen-told.ensures.dots has))

pub returns-clause-ok : goal.returns-clause-ok
returns-clause-ok g c =
    let s = g.S.DotSet.contents in
    let v = c.args.state.now in
    let told = c.args.digest.now in
    let seen = c.seen-seen.ensures ∙ ap seen_of c.lives-lives.ensures in
    let live = c.in_ok-live.ensures.dots ∙ ap live_of c.lives-lives.ensures in
    has_all v told (s c.seen-seen.result.now) (s c.seen-told.result.now) seen c.seen-told.ensures.dots c.seen-told.ensures.inside (s c.in_ok-live.live) (s c.live.result.now) live c.live.ensures c.stay_live.result
    (c.if-not-is_inside.ensures.0 refl)
    (known_at c.counts-2.result.now c.counts.result.now told.counts v.counts c.counts-2.ensures c.counts.ensures (c.if-not-are_numbers_reached.ensures.0 refl))
    c.stay_live.ensures.ok
