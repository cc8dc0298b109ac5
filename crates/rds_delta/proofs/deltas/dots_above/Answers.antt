use Rattle.std.proofs.Common.{◌∙◌, ◌&&◌, ap, refl}
use mathlib.Core.Bool.{false≢true}
use Rattle.std.specs.FinMap as map
use Rattle.std.specs.FinSet as set
use Rattle.rds_dots.specs.Dots.{Dots}
use Rattle.rds_life.specs.Life.{is_dead}
use Rattle.rds_delta.proofs.NothingSent.{nothing_killed, nothing_new, sent_inside}
use Rattle.rds_delta.proofs.deltas.dots_above.Goals as goal

pub returns-in_err-killed-clause-nothing : goal.returns-in_err-killed-clause-nothing
returns-in_err-killed-clause-nothing g c = λ none.
    let v = c.args.lives.now in
    absurd (false≢true (c.in_err-killed.ensures.nothing (λ d. ap (λ (s : Dots). is_dead (map.get v d) && set.contains s d) c.live.ensures ∙ nothing_killed v c.args.digest.now none d)))

pub returns-then-is_inside-clause-ok : goal.returns-then-is_inside-clause-ok
returns-then-is_inside-clause-ok g c = λ d.
    let v = c.args.lives.now in
    c.in_ok-killed.ensures.ok d ∙ ap (λ (s : Dots). is_dead (map.get v d) && set.contains s d) c.live.ensures ∙ sent_inside v c.args.digest.now c.seen.ensures c.seen-2.ensures.dots (c.if-is_inside.ensures.0 refl) d

pub returns-in_err-new-clause-nothing : goal.returns-in_err-new-clause-nothing
returns-in_err-new-clause-nothing g c = λ none.
    absurd (false≢true (c.if-is_inside.ensures.1 (nothing_new c.args.lives.now c.args.digest.now none c.seen.ensures c.seen-2.ensures.dots)))

pub returns-in_err-sent-clause-nothing : goal.returns-in_err-sent-clause-nothing
returns-in_err-sent-clause-nothing g c = λ none.
    absurd (false≢true (c.if-is_inside.ensures.1 (nothing_new c.args.lives.now c.args.digest.now none c.seen.ensures c.seen-2.ensures.dots)))
