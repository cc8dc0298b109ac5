use Rattle.rds_delta.proofs.KilledLemmas.{AreKilledTo, places_after}
use Rattle.rds_delta.proofs.killed.dots_killed.Given as goal

abbrev pub invariant-killing : goal.invariant-killing
invariant-killing g l = AreKilledTo l.lives (g.S.DotSet.contents l.live) l.after (g.S.DotSet.contents l.killed)

abbrev pub decreases-killing : goal.decreases-killing
decreases-killing g l = places_after l.after
