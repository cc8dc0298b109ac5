use Rattle.std.proofs.Common.{length, ◌++◌}
use Rattle.std.specs.List.{flat_map}
use Rattle.rds_dots.specs.Runs.{runs_of}
use Rattle.rds_bytes.specs.DotRows.{rows_from}
use Rattle.rds_packed.specs.SeenTexts.{packed_dot_row_text}
use Rattle.rds_packed.proofs.SeenWalks.{IsWritingRows, left}
use Rattle.rds_packed.proofs.sets.put_rows.Given as goal

abbrev pub invariant-walking : goal.invariant-walking
invariant-walking g l = IsWritingRows (g.S.DotSet.contents l.seen) l.after l.out.items (l.initial.out.items ++ flat_map packed_dot_row_text (rows_from 0 (runs_of (g.S.DotSet.contents l.seen))))

abbrev pub decreases-walking : goal.decreases-walking
decreases-walking g l = length (left (g.S.DotSet.contents l.seen) l.after)
