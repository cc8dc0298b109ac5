-- Lists of no value or one have each once, ascending.
use Rattle.std.proofs.Common.{◌≡◌, Bool, true, false, cond, List, [], ◌∷◌, refl, sym, ◌∙◌, ap}
use Rattle.std.specs.Prelude.{Some, None}
use Rattle.std.specs.List.{cons_option}
use Rattle.std.specs.List.Sorted.{IsStrictlySortedBy}
use Rattle.rds_names.specs.declared.scalar.Scalar.{Scalar}
use Rattle.rds_names.specs.Orders.{scalar_cmp}
use Rattle.rds_names.proofs.Orders.{scalars_exact}
use Rattle.rds_tree.specs.Once.{once_is}
use Rattle.rds_tree.specs.View.{values_once}
use Rattle.rds_tree.proofs.ScalarOrder.{scalars_total}

pub no_values : [] ≡ values_once []
unfolding IsStrictlySortedBy
no_values = sym (once_is scalars_total scalars_exact [] [] tt (λ q. refl))

pub one_value : (v : Scalar) → v ∷ [] ≡ values_once (v ∷ [])
unfolding IsStrictlySortedBy
one_value v = sym (once_is scalars_total scalars_exact (v ∷ []) (v ∷ []) (tt, tt) (λ q. refl))

-- the value where a test holds
pub picked_value : (b : Bool) (v : Scalar) → b ≡ true → v ∷ [] ≡ values_once (cons_option (cond b (Some v) None) [])
picked_value b v is = one_value v ∙ ap (λ a. values_once (cons_option (cond a (Some v) None) [])) (sym is)

pub other_value : (b : Bool) (v : Scalar) → b ≡ false → [] ≡ values_once (cons_option (cond b (Some v) None) [])
other_value b v is = no_values ∙ ap (λ a. values_once (cons_option (cond a (Some v) None) [])) (sym is)
