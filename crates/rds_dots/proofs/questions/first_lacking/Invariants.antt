use Rattle.std.proofs.Common.{◌-◌}
use Rattle.rds_dots.specs.declared.dot.TheConstants.{MAX_SEQ}
use Rattle.rds_dots.proofs.Uptos.{HasUpTo}
use Rattle.rds_dots.proofs.questions.first_lacking.Given as goal

abbrev pub invariant-looking : goal.invariant-looking
invariant-looking g l = HasUpTo (g.S.DotSet.contents l.here) (g.S.DotSet.contents l.there) l.replica l.from

abbrev pub decreases-looking : goal.decreases-looking
decreases-looking g l = MAX_SEQ - l.from
