-- The join of two compatible lives is the least above both.
use Rattle.std.proofs.Common.{◌≡◌, sym, subst}
use Rattle.std.specs.FinMap as map
use Rattle.rds_dots.specs.Order.{dots_total, dots_exact}
use Rattle.rds_life.specs.Life.{Lived, IsJoin, IsNoLater, IsLeastAbove, LivesAreCompatible}
use Rattle.rds_life.proofs.LifeOrder.{life_antisymmetric, life_left, life_right, life_least}

pub least_above : (a b c : Lived) → LivesAreCompatible a b → IsJoin a b c → IsLeastAbove a b c
least_above a b c agree join = record {
  left = λ d. subst (IsNoLater (map.get a d)) (sym (join.each_dot d)) (life_left (map.get a d) (map.get b d));
  right = λ d. subst (IsNoLater (map.get b d)) (sym (join.each_dot d)) (life_right (map.get a d) (map.get b d) (agree.each_dot d));
  least = λ e left right d. subst (λ l. IsNoLater l (map.get e d)) (sym (join.each_dot d)) (life_least (map.get a d) (map.get b d) (map.get e d) (left d) (right d));
}

-- and there is one alone
pub one_least_above : (a b v w : Lived) → IsLeastAbove a b v → IsLeastAbove a b w → v ≡ w
one_least_above a b v w one other = map.same_map dots_total dots_exact v w (λ d.
    life_antisymmetric _ _ (one.least w other.left other.right d) (other.least v one.left one.right d))
