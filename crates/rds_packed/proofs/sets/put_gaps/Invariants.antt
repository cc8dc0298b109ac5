use Rattle.std.proofs.Common.{length, Some, ◌++◌}
use Rattle.rds_dots.specs.Dots.{last_of}
use Rattle.rds_bytes.specs.DotRows.{row_of_run}
use Rattle.rds_packed.specs.SeenTexts.{packed_gaps_text}
use Rattle.rds_packed.proofs.SeenWalks.{IsWritingGaps, left}
use Rattle.rds_packed.proofs.sets.put_gaps.Given as goal

abbrev pub invariant-walking : goal.invariant-walking
invariant-walking g l =
    IsWritingGaps (g.S.DotSet.contents l.seen) l.fn.first l.run l.from l.out.items (l.fn.out.items ++ packed_gaps_text 0 (row_of_run (g.S.DotSet.contents l.seen) l.fn.first).gaps)

abbrev pub decreases-walking : goal.decreases-walking
decreases-walking g l = length (left (g.S.DotSet.contents l.seen) (Some (last_of l.run)))
