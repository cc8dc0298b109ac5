use Rattle.std.proofs.Common.{◌++◌}
use Rattle.rds_bytes.specs.DotRows.{row_of_run}
use Rattle.rds_packed.specs.SeenTexts.{packed_gaps_text}
use Rattle.rds_packed.proofs.SeenWalks.{writing_goes_on}
use Rattle.rds_packed.proofs.sets.put_gaps.Goals as goal

pub walking-preserved : goal.walking-preserved
walking-preserved g c =
    let s = g.S.DotSet.contents c.args.seen.now in
    rw c.end_before-from-in-Some.ensures (writing_goes_on s c.args.first c.walking.run c.walking.from c.walking.out.items (c.args.out.now.items ++ packed_gaps_text 0 (row_of_run s c.args.first).gaps) c.walking.invariant
    c.in-Some.next c.put_gap_before-in-Some.new.out.items c.in-Some.ensures c.in_ok-put_gap_before-2.ensures)
