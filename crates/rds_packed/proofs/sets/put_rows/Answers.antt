use Rattle.std.proofs.Common.{◌++◌, sym}
use Rattle.std.specs.List.{flat_map}
use Rattle.rds_dots.specs.Runs.{runs_of}
use Rattle.rds_bytes.specs.DotRows.{rows_from}
use Rattle.rds_packed.specs.SeenTexts.{packed_dot_row_text}
use Rattle.rds_packed.proofs.SeenWalks.{is_run, one_row, rows_writing_begins, rows_writing_goes_on, rows_writing_ends}
use Rattle.rds_packed.proofs.sets.put_rows.Goals as goal

pub walking-init : goal.walking-init
walking-init g c = rows_writing_begins (g.S.DotSet.contents c.args.seen.now) c.args.out.now.items

pub returns : goal.returns
returns g c =
    let s = g.S.DotSet.contents c.args.seen.now in
    let all = c.args.out.now.items ++ flat_map packed_dot_row_text (rows_from 0 (runs_of s)) in
    rows_writing_ends s (g.met.S.DotSet.within c.args.seen.now) c.walking.after c.walking.out.items all c.walking.invariant (sym c.in_default.ensures)

pub put_row-requires : goal.put_row-requires
put_row-requires g c =
    is_run (g.S.DotSet.contents c.args.seen.now) (g.met.S.DotSet.within c.args.seen.now) c.walking.after c.in-Some.run' (sym c.in-Some.ensures)

pub walking-smaller : goal.walking-smaller
walking-smaller g c =
    let s = g.S.DotSet.contents c.args.seen.now in
    (one_row s (g.met.S.DotSet.within c.args.seen.now) c.walking.after c.in-Some.run' c.in_ok-last.last c.walking.invariant.ended (sym c.in-Some.ensures) c.in_ok-last.ensures.last).fewer

pub walking-preserved : goal.walking-preserved
walking-preserved g c =
    let s = g.S.DotSet.contents c.args.seen.now in
    let dots = g.met.S.DotSet.within c.args.seen.now in
    let all = c.args.out.now.items ++ flat_map packed_dot_row_text (rows_from 0 (runs_of s)) in
    let o = one_row s dots c.walking.after c.in-Some.run' c.in_ok-last.last c.walking.invariant.ended (sym c.in-Some.ensures) c.in_ok-last.ensures.last in
    rows_writing_goes_on s dots c.walking.after c.walking.out.items all c.walking.invariant c.in-Some.run' c.in_ok-last.last c.put_row.new.out.items o c.in_ok-last.ensures.text
