-- The first clash, by a search for each row of one list in the other.
use Rattle.std.proofs.Common.{◌≡◌, true, false, cond, List, [], ◌∷◌, Option, Some, None, refl, sym, ◌∙◌, ap, subst}
use Rattle.std.specs.Ordering.{eq_by_cmp, is_eq}
use Rattle.std.specs.List.{list_all}
use Rattle.std.specs.FinMap.{find}
use Rattle.std.specs.Cmp.{tied_itself}
use Rattle.rds_dots.specs.declared.dot.Dot.{Dot}
use Rattle.rds_dots.specs.Dots.{dot_cmp}
use Rattle.rds_dots.specs.Ascending.{is_above, ascends}
use Rattle.rds_dots.specs.Order.{dots_total}
use Rattle.rds_dots.specs.Merges.{above_trans}
use Rattle.rds_names.specs.Conditions.{and_true, and_left, and_right, less_of}
use Rattle.rds_dots.specs.Sets.{tied_dots_are_one}
use Rattle.rds_life.specs.Life.{keys}
use Rattle.rds_life.specs.Clash.{SameIfBoth, Clashes}
use Rattle.rds_life.proofs.RowLemmas.{find_above}
use Rattle.rds_life.proofs.Clashes.{none_right, by_right}

-- what is left to look up leads to the same as all of it
pub record IsLookedUp {X : Type 0} (a b rest : List (Dot × X)) : Type 0 where
  pub rise : ascends (keys rest) ≡ true
  pub leads : (r : Option Dot) → Clashes a rest r → Clashes a b r

module _ {X : Type 0} (a : List (Dot × X)) (x : Dot × X) (rest : List (Dot × X)) (rise : ascends (keys (x ∷ rest)) ≡ true) where
  same_more : SameIfBoth (find dot_cmp x.0 a) (Some x.1) → (q : Dot) → SameIfBoth (find dot_cmp q a) (find dot_cmp q rest) → SameIfBoth (find dot_cmp q a) (find dot_cmp q (x ∷ rest))
  same_more same q h = elim (eq_by_cmp dot_cmp q x.0) as (λ b. eq_by_cmp dot_cmp q x.0 ≡ b → SameIfBoth (find dot_cmp q a) (cond b (Some x.1) (find dot_cmp q rest))) [
    | true ↦ λ is. subst (λ p. SameIfBoth (find dot_cmp p a) (Some x.1)) (sym (tied_dots_are_one q x.0 is)) same
    | false ↦ λ _. h
  ] refl

  same_less : (q : Dot) → SameIfBoth (find dot_cmp q a) (find dot_cmp q (x ∷ rest)) → SameIfBoth (find dot_cmp q a) (find dot_cmp q rest)
  same_less q h = elim (eq_by_cmp dot_cmp q x.0) as (λ b. eq_by_cmp dot_cmp q x.0 ≡ b → SameIfBoth (find dot_cmp q a) (cond b (Some x.1) (find dot_cmp q rest)) → SameIfBoth (find dot_cmp q a) (find dot_cmp q rest)) [
    | true ↦ λ is _. by_right (find dot_cmp q a) (find dot_cmp q rest) (ap (λ p. find dot_cmp p rest) (tied_dots_are_one q x.0 is) ∙ find_above x.0 rest (and_left _ (ascends (keys rest)) rise))
    | false ↦ λ _ k. k
  ] refl h

  clashes_more : SameIfBoth (find dot_cmp x.0 a) (Some x.1) → (r : Option Dot) → Clashes a rest r → Clashes a (x ∷ rest) r
  clashes_more same None h = λ q. same_more same q (h q)
  clashes_more same (Some q) h = record { here = λ k. h.here (same_less q k); first = λ p lt. same_more same p (h.first p lt) }

  first_is : find dot_cmp x.0 (x ∷ rest) ≡ Some x.1
  first_is = ap (λ o. cond (is_eq o) (Some x.1) (find dot_cmp x.0 rest)) (tied_itself dots_total x.0)

  clash_here : ¬ (SameIfBoth (find dot_cmp x.0 a) (Some x.1)) → Clashes a (x ∷ rest) (Some x.0)
  clash_here differs = record {
    here = λ k. differs (subst (SameIfBoth (find dot_cmp x.0 a)) first_is k);
    first = λ p lt. by_right (find dot_cmp p a) (find dot_cmp p (x ∷ rest)) (find_above p (x ∷ rest) (and_true _ _ lt (above_trans p x.0 (less_of (dot_cmp p x.0) lt) (keys rest) (and_left _ (ascends (keys rest)) rise))));
  }

module _ {X : Type 0} (a b : List (Dot × X)) where
  module _ (was : List (Dot × X)) (x : Dot × X) (rest : List (Dot × X)) (is : was ≡ x ∷ rest) (past : IsLookedUp a b was) where
    rises : ascends (keys (x ∷ rest)) ≡ true
    rises = ap (λ l. ascends (keys l)) (sym is) ∙ past.rise

    pub look_on : SameIfBoth (find dot_cmp x.0 a) (Some x.1) → IsLookedUp a b rest
    look_on same = record {
      rise = and_right (list_all (is_above x.0) (keys rest)) _ rises;
      leads = λ r h. past.leads r (subst (λ l. Clashes a l r) (sym is) (clashes_more a x rest rises same r h));
    }

    pub look_found : ¬ (SameIfBoth (find dot_cmp x.0 a) (Some x.1)) → Clashes a b (Some x.0)
    look_found differs = past.leads (Some x.0) (subst (λ l. Clashes a l (Some x.0)) (sym is) (clash_here a x rest rises differs))

  pub look_end : (was : List (Dot × X)) → was ≡ [] → IsLookedUp a b was → Clashes a b None
  look_end was is past = past.leads None (subst (λ l. Clashes a l None) (sym is) (λ q. none_right (find dot_cmp q a)))
