use Rattle.std.proofs.Common.{◌≤◌, ◌∙◌, ap, sym, subst, length}
use Rattle.std.specs.FinSet as set
use Rattle.rds_dots.specs.Lacking.{dot_of}
use Rattle.rds_delta.specs.Higher.{unseen_rows}
use Rattle.rds_life.proofs.GapRows.{front_rises, no_more}
use Rattle.rds_delta.proofs.LeapLemmas.{rows_leapt}
use Rattle.rds_delta.proofs.deltas.past_run.Goals as goal

pub stretch_from-requires : goal.stretch_from-requires
stretch_from-requires g c = g.met.S.DotSet.within c.args.seen.now c.args.dot c.requires.seen

pub returns-clause-unseen : goal.returns-clause-unseen
returns-clause-unseen g c =
    let s = g.S.DotSet.contents c.args.seen.now in
    let d = c.args.dot in
    let rows = c.args.rows in
    let far = c.stretch_from.result in
    ap (unseen_rows (set.contains s)) c.skip_past.ensures.past
    ∙ rows_leapt s d c.requires.seen far.has far.until c.stretch_from.ensures rows (front_rises d rows c.requires.rise)

pub returns-clause-fewer : goal.returns-clause-fewer
returns-clause-fewer g c = subst (λ rows. length rows ≤ length c.args.rows) (sym c.skip_past.ensures.past) (no_more (dot_of c.args.dot.replica c.stretch_from.result.until) c.args.rows)
