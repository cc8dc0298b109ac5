use Rattle.std.proofs.Common.{length, Some}
use Rattle.rds_dots.specs.Dots.{last_of}
use Rattle.rds_packed.proofs.SeenWalks.{IsSizing, left}
use Rattle.rds_packed.proofs.sets.measure_row.Given as goal

abbrev pub invariant-walking : goal.invariant-walking
invariant-walking g l = IsSizing (g.S.DotSet.contents l.seen) l.fn.first l.run l.from l.gaps l.bytes

abbrev pub decreases-walking : goal.decreases-walking
decreases-walking g l = length (left (g.S.DotSet.contents l.seen) (Some (last_of l.run)))
