use Rattle.std.proofs.Common.{◌≡◌, ◌∙◌, ap, sym}
use Rattle.std.specs.Prelude.{fold}
use Rattle.rds_counts.specs.Drawn.{greatest_rows}
use Rattle.rds_life.specs.Life.{live_rows, seen_of}
use Rattle.rds_state.proofs.EditLemmas.{if_ok}
use Rattle.rds_state.specs.declared.mark.Mark.{Mark}
use Rattle.rds_state.specs.Mark.{no_mark, plus_count, plus_live}
use Rattle.rds_session.proofs.JoinedMarks.{mark_joined, unseen}
use Rattle.rds_session.proofs.marks.joined_mark.Goals as goal

pub returns-clause-ok : goal.returns-clause-ok
returns-clause-ok g c =
    let kept = c.args.kept.now in
    let delta = c.args.delta.now in
    let xs = c.rows.result.now in
    let ys = c.rows-2.result.now in
    let staying : c.unseen_mark-staying.result ≡ fold plus_live no_mark (unseen (seen_of delta.lives) (live_rows kept.lives)) =
    c.unseen_mark-staying.ensures
    ∙ ap (λ s. fold plus_live no_mark (unseen s c.live.result)) (c.seen.ensures ∙ ap seen_of c.lives-2.ensures)
    ∙ ap (λ rows. fold plus_live no_mark (unseen (seen_of delta.lives) rows)) (c.live.ensures.rows ∙ ap live_rows c.lives.ensures) in
    let live = c.plus_live-live.ensures ∙ ap (λ m. fold plus_live m c.live-2.result) staying ∙ ap (fold plus_live _) (c.live-2.ensures.rows ∙ ap live_rows c.lives-3.ensures) in
    if_ok {X = λ (m : Mark). m ≡ fold plus_count c.plus_live-live.result (greatest_rows xs ys)} c.plus_greatest.result
    (λ mark is. is ∙ ap (λ m. fold plus_count m (greatest_rows xs ys)) live
    ∙ mark_joined kept delta c.requires.above xs ys c.rows.ensures.are_rows (sym c.rows.ensures.value ∙ c.counts.ensures) c.rows-2.ensures.are_rows (sym c.rows-2.ensures.value ∙ c.counts-2.ensures))
    c.plus_greatest.ensures.ok
