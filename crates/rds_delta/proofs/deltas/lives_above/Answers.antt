use Rattle.std.proofs.Common.{◌≡◌, ◌∙◌, sym, ap, subst}
use mathlib.Core.Bool.{false≢true}
use Rattle.std.specs.FinMap as map
use Rattle.std.specs.FinSet as set
use Rattle.rds_dots.specs.Dots.{Dots}
use Rattle.rds_life.specs.Life.{Lived, lives_of, live_rows, AreRows}
use Rattle.rds_life.proofs.Views.{rise-live_rows, find-live_rows}
use Rattle.rds_delta.specs.Higher.{unseen_rows}
use Rattle.rds_delta.proofs.DeltaLemmas.{sent_rows, sent_lives}
use Rattle.rds_delta.proofs.NothingSent.{nothing_above, rows_of_none}
use Rattle.rds_delta.proofs.deltas.lives_above.Goals as goal

pub with_rows-requires : goal.with_rows-requires
with_rows-requires g c =
    let digest = c.args.digest.now in
    let v = c.args.lives.now in
    let s = g.S.DotSet.contents c.in_ok-seen.seen in
    let rows = c.in_ok-rows.rows.items in
    let sent : rows ≡ unseen_rows (set.contains digest.seen) (live_rows v) = c.in_ok-rows.ensures.ok ∙ ap (λ (t : Dots). unseen_rows (set.contains t) (live_rows v)) c.seen-known.ensures.dots in
    record { rows = subst (AreRows s) (sym sent) (sent_rows digest c.seen-known.ensures.inside v s c.in_ok-seen.ensures.ok (live_rows v) (rise-live_rows v) (find-live_rows v)) }

pub returns-in_err-seen-clause-nothing : goal.returns-in_err-seen-clause-nothing
returns-in_err-seen-clause-nothing g c = λ none. absurd (false≢true (c.in_err-seen.ensures.nothing (nothing_above c.args.lives.now c.args.digest.now c.seen-known.ensures.inside none)))

pub returns-in_err-rows-clause-nothing : goal.returns-in_err-rows-clause-nothing
returns-in_err-rows-clause-nothing g c = λ none.
    let digest = c.args.digest.now in
    let v = c.args.lives.now in
    let s = g.S.DotSet.contents c.in_ok-seen.seen in
    absurd (false≢true (c.in_err-rows.ensures.nothing
    (ap (λ (t : Dots). unseen_rows (set.contains t) (live_rows v)) c.seen-known.ensures.dots
    ∙ rows_of_none s (unseen_rows (set.contains digest.seen) (live_rows v))
    (sent_rows digest c.seen-known.ensures.inside v s c.in_ok-seen.ensures.ok (live_rows v) (rise-live_rows v) (find-live_rows v))
    (λ d. c.in_ok-seen.ensures.ok d ∙ nothing_above v digest c.seen-known.ensures.inside none d))))

pub returns-clause-ok : goal.returns-clause-ok
returns-clause-ok g c = λ d.
    let digest = c.args.digest.now in
    let v = c.args.lives.now in
    let s = g.S.DotSet.contents c.in_ok-seen.seen in
    let rows = c.in_ok-rows.rows.items in
    let sent : rows ≡ unseen_rows (set.contains digest.seen) (live_rows v) = c.in_ok-rows.ensures.ok ∙ ap (λ (t : Dots). unseen_rows (set.contains t) (live_rows v)) c.seen-known.ensures.dots in
    ap (λ (l : Lived). map.get l d) (c.with_rows.ensures.lives ∙ ap (lives_of s) sent)
    ∙ sent_lives digest c.seen-known.ensures.inside v s c.in_ok-seen.ensures.ok (live_rows v) (rise-live_rows v) (find-live_rows v) d
