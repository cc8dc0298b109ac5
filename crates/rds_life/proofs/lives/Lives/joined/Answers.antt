use Rattle.std.proofs.Common.{rules}
use Rattle.rds_life.proofs.Bounds.{least_above}
use Rattle.rds_life.proofs.LivedLemmas.{are_joined, is_joined}
use Rattle.rds_life.proofs.DeadSets.{kept-none}
use Rattle.rds_life.proofs.lives.Lives.joined.Goals as goal

pub invariant_of-result : goal.invariant_of-result
invariant_of-result g c = kept-none _ _ (are_joined _ _ _ _ c.self.invariant.rows c.other.invariant.rows c.in_ok-seen.ensures.ok c.in_ok-rows.ensures.ok)

pub returns-clause-ok : goal.returns-clause-ok
returns-clause-ok g c = is_joined _ _ _ _ c.self.invariant.rows c.other.invariant.rows _ _ _ _ c.in_ok-seen.ensures.ok c.in_ok-rows.ensures.ok c.self.view_is c.other.view_is

pub returns-clause-least : goal.returns-clause-least
returns-clause-least g c = least_above _ _ _ (search rules) (returns-clause-ok g c)
