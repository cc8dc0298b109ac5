use Rattle.std.proofs.Common.{◌≤◌, ◌∙◌, ap, sym, subst, length}
use Rattle.std.specs.FinSet as set
use Rattle.rds_life.specs.Added.{gone_rows}
use Rattle.rds_life.proofs.GapRows.{front_rises, gone_leapt, no_more}
use Rattle.rds_life.proofs.gone.past_gap.Goals as goal

pub returns-clause-gone : goal.returns-clause-gone
returns-clause-gone g c = λ live.
    let s = g.S.DotSet.contents c.args.seen.now in
    ap (gone_rows (set.contains s) live) c.skip_past.ensures.past
    ∙ gone_leapt s live c.args.dot c.gap_end.result c.gap_end.ensures c.args.rows (front_rises c.args.dot c.args.rows c.requires.rise)

pub returns-clause-fewer : goal.returns-clause-fewer
returns-clause-fewer g c = subst (λ rows. length rows ≤ length c.args.rows) (sym c.skip_past.ensures.past) (no_more c.gap_end.result c.args.rows)
