use Rattle.std.proofs.Common.{◌++◌}
use Rattle.std.specs.List.{flat_map}
use Rattle.rds_bytes.specs.DotRows.{row_of_run}
use Rattle.rds_bytes.specs.Spelling.{gap_text}
use Rattle.rds_bytes.proofs.RunSteps.{writing_goes_on}
use Rattle.rds_bytes.proofs.dots.put_gaps.Goals as goal

pub walking-preserved : goal.walking-preserved
walking-preserved g c =
    let s = g.S.DotSet.contents c.args.seen.now in
    writing_goes_on s c.args.first c.walking.run c.walking.out.items (c.args.out.now.items ++ flat_map gap_text (row_of_run s c.args.first).gaps) c.walking.invariant c.in-Some.next c.put_gap_before-in-Some.new.out.items
    c.in-Some.ensures c.in_ok-put_gap_before-2.ensures
