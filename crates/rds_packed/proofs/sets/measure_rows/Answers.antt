use Rattle.std.proofs.Common.{List, ap, sym, ◌∙◌, length, arith}
use Rattle.std.specs.List.{flat_map}
use Rattle.rds_bytes.specs.declared.dots.DotRow.{DotRow}
use Rattle.rds_packed.specs.SeenTexts.{packed_dot_row_text}
use Rattle.rds_packed.proofs.SeenWalks.{IsOneRow, a_dot, is_run, is_small, one_row, rows_ended, measuring_begins, measuring_goes_on}
use Rattle.rds_packed.proofs.sets.measure_rows.Given.{Over}
use Rattle.rds_packed.proofs.sets.measure_rows.Goals as goal

pub walking-init : goal.walking-init
walking-init g c = measuring_begins (g.S.DotSet.contents c.args.seen.now)

pub returns-clause-rows : goal.returns-clause-rows
returns-clause-rows g c =
    let s = g.S.DotSet.contents c.args.seen.now in
    let e = ap length (rows_ended s (g.met.S.DotSet.within c.args.seen.now) c.walking.after (sym c.in_default.ensures)) in
    omega (arith, e, c.walking.invariant.counted)

pub returns-clause-length : goal.returns-clause-length
returns-clause-length g c =
    let s = g.S.DotSet.contents c.args.seen.now in
    let e = ap (λ (x : List DotRow). length (flat_map packed_dot_row_text x)) (rows_ended s (g.met.S.DotSet.within c.args.seen.now) c.walking.after (sym c.in_default.ensures)) in
    omega (arith, e, c.walking.invariant.measured)

pub measure_row-size-requires : goal.measure_row-size-requires
measure_row-size-requires g c =
    is_run (g.S.DotSet.contents c.args.seen.now) (g.met.S.DotSet.within c.args.seen.now) c.walking.after c.in-Some.run' (sym c.in-Some.ensures)

row_at : (g : Over) (c : goal.After-from-length g) → IsOneRow (g.S.DotSet.contents c.args.seen.now) (g.met.S.DotSet.within c.args.seen.now) c.walking.after c.in-Some.run' (a_dot c.in-Some.run'.replica c.measure_row-size.result.top)
row_at g c =
    let s = g.S.DotSet.contents c.args.seen.now in
    let r = c.in-Some.run' in
    one_row s (g.met.S.DotSet.within c.args.seen.now) c.walking.after r (a_dot r.replica c.measure_row-size.result.top) c.walking.invariant.ended (sym c.in-Some.ensures) (ap (a_dot r.replica) c.measure_row-size.ensures.top)

pub walking-smaller : goal.walking-smaller
walking-smaller g c = (row_at g c).fewer

pub walking-preserved : goal.walking-preserved
walking-preserved g c =
    let s = g.S.DotSet.contents c.args.seen.now in
    let dots = g.met.S.DotSet.within c.args.seen.now in
    let r = c.in-Some.run' in
    let size = c.measure_row-size.result in
    let is = c.measure_row-size.ensures in
    measuring_goes_on s c.walking.after c.walking.rows c.walking.length r size.top size.gaps size.bytes c.from-length.result dots c.walking.invariant (row_at g c) (is_small s dots c.walking.after r (sym c.in-Some.ensures))
    (record { top_is = is.top; gaps_are = is.gaps; bytes_are = is.bytes; all = c.from-length.ensures ∙ c.row_length.ensures.length; most = omega (arith, c.from-length.ensures, c.row_length.ensures.most) })
