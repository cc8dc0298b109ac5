use Rattle.std.proofs.Common.{length, Some}
use Rattle.rds_dots.specs.Dots.{last_of}
use Rattle.rds_bytes.proofs.RunSteps.{IsCountingGaps, left}
use Rattle.rds_bytes.proofs.dots.numbers_of.Given as goal

abbrev pub invariant-walking : goal.invariant-walking
invariant-walking g l = IsCountingGaps (g.S.DotSet.contents l.seen) l.fn.first l.run l.gaps

abbrev pub decreases-walking : goal.decreases-walking
decreases-walking g l = length (left (g.S.DotSet.contents l.seen) (Some (last_of l.run)))
