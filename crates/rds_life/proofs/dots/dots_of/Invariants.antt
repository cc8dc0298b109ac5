use Rattle.std.proofs.Common.{length}
use Rattle.rds_life.specs.Life.{keys}
use Rattle.rds_life.proofs.Gathers.{AreGathered}
use Rattle.rds_life.proofs.dots.dots_of.Given as goal

abbrev pub invariant-gathering : goal.invariant-gathering
invariant-gathering g l = AreGathered (g.S.DotSet.contents l.dots) l.run (keys l.rest) (keys l.fn.rows)

abbrev pub decreases-gathering : goal.decreases-gathering
decreases-gathering g l = length l.rest
