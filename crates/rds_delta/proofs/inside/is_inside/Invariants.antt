use Rattle.rds_delta.proofs.InsideLemmas.{AreLeft}
use Rattle.rds_delta.proofs.inside.is_inside.Given as goal

abbrev pub invariant-testing : goal.invariant-testing
invariant-testing g l = AreLeft (g.S.DotSet.contents l.inner) (g.S.DotSet.contents l.outer) l.run-iterator
