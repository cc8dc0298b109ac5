use Rattle.std.proofs.Common.{length}
use Rattle.rds_packed.proofs.SeenWalks.{IsMeasuring, left}
use Rattle.rds_packed.proofs.sets.measure_rows.Given as goal

abbrev pub invariant-walking : goal.invariant-walking
invariant-walking g l = IsMeasuring (g.S.DotSet.contents l.seen) l.after l.rows l.length

abbrev pub decreases-walking : goal.decreases-walking
decreases-walking g l = length (left (g.S.DotSet.contents l.seen) l.after)
