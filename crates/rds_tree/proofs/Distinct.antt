-- Values in order, without those that repeat the one before, are the values once.
use Rattle.std.proofs.Common.{◌≡◌, Bool, true, false, cond, ◌||◌, List, [], ◌∷◌, refl, sym, ◌∙◌, ap}
use Rattle.std.specs.Prelude.{Option, Some, None}
use Rattle.std.specs.List.{list_any, AllByRecursion}
use Rattle.std.specs.List.Sorted.{IsStrictlySortedBy}
use Rattle.std.specs.Ordering.{eq_by_cmp, is_eq, is_gt}
use Rattle.std.specs.declared.cmp.Ordering.{Ordering}
use Rattle.std.specs.declared.cmp.Ordering.TheVariants.{Less, Equal, Greater}
use Rattle.std.specs.Cmp.{IsTotalOrder}
use Rattle.std.specs.FinMap as map_of
use Rattle.rds_names.specs.Conditions.{equal_of}
use Rattle.rds_tree.specs.Once.{once, once_is}
use Rattle.rds_tree.specs.Distinct.{is_last, distinct}

less_of : (o : Ordering) → is_gt o ≡ false → is_eq o ≡ false → o ≡ Less
less_of Less g e = refl
less_of Equal g e = absurd (cc)
less_of Greater g e = absurd (cc)

twice : (a b c : Bool) → a ≡ b → (a || c) ≡ (a || (b || c))
twice true b c h = refl
twice false b c h = rw (← h) refl

-- none of the values is less
abbrev pub NoLess : {K : Type 0} → (K → K → Ordering) → K → List K → Type 0
NoLess R x [] = Unit {0}
NoLess R x (y ∷ ys) = (is_gt (R x y) ≡ false) × NoLess R x ys

-- no value is less than an earlier one
abbrev pub Climbs : {K : Type 0} → (K → K → Ordering) → List K → Type 0
Climbs R [] = Unit {0}
Climbs R (x ∷ xs) = NoLess R x xs × Climbs R xs

module _ {K : Type 0} (R : K → K → Ordering) (total : IsTotalOrder R) (exact : map_of.IsAntisymmetric R) where
  abbrev passes : (K → Bool) → Option K → Bool
  passes t None = false
  passes t (Some u) = t u

  same_last : (t : K → Bool) (last : Option K) (x : K) → is_last R last x ≡ true → passes t last ≡ t x
  same_last t None x h = absurd (cc)
  same_last t (Some u) x h = ap t (exact u x (equal_of _ h))

  any-distinct : (t : K → Bool) (last : Option K) (xs : List K) → (passes t last || list_any t (distinct R last xs)) ≡ (passes t last || list_any t xs)
  any-distinct t last [] = refl
  any-distinct t last (x ∷ xs) =
      elim (is_last R last x) as (λ b. is_last R last x ≡ b → (passes t last || list_any t (cond b (distinct R last xs) (x ∷ distinct R (Some x) xs))) ≡ (passes t last || (t x || list_any t xs))) [
        | true ↦ λ e. any-distinct t last xs ∙ twice (passes t last) (t x) _ (same_last t last x e)
        | false ↦ λ e. ap (λ b. passes t last || b) (any-distinct t (Some x) xs)
      ] refl

  all_less : (u v : K) (xs : List K) → R u v ≡ Less → AllByRecursion (λ x. R v x ≡ Less) xs → AllByRecursion (λ x. R u x ≡ Less) xs
  all_less u v [] less h = tt
  all_less u v (x ∷ xs) less h = (total.trans u v x less h.0, all_less u v xs less h.1)

  above : (u : K) (xs : List K) → NoLess R u xs → Climbs R xs → AllByRecursion (λ x. R u x ≡ Less) (distinct R (Some u) xs)
  above u [] no_less climbs = tt
  above u (x ∷ xs) no_less climbs =
      elim (eq_by_cmp R u x) as (λ b. eq_by_cmp R u x ≡ b → AllByRecursion (λ y. R u y ≡ Less) (cond b (distinct R (Some u) xs) (x ∷ distinct R (Some x) xs))) [
        | true ↦ λ e. above u xs no_less.1 climbs.1
        | false ↦ λ e. let less : R u x ≡ Less = less_of _ no_less.0 e in (less, all_less u x _ less (above x xs climbs.0 climbs.1))
      ] refl

  distinct_rises : (last : Option K) (xs : List K) → Climbs R xs → IsStrictlySortedBy R (distinct R last xs)
  unfolding IsStrictlySortedBy
  distinct_rises last [] climbs = tt
  distinct_rises last (x ∷ xs) climbs =
      elim (is_last R last x) as (λ b. IsStrictlySortedBy R (cond b (distinct R last xs) (x ∷ distinct R (Some x) xs))) [
        | true ↦ distinct_rises last xs climbs.1
        | false ↦ (above x xs climbs.0 climbs.1, distinct_rises (Some x) xs climbs.1)
      ]

  -- values in order, and others with the same members
  pub once_distinct : (xs ys : List K) → Climbs R xs → ((t : K → Bool) → list_any t ys ≡ list_any t xs) → once R ys ≡ distinct R None xs
  once_distinct xs ys climbs same =
      once_is total exact (distinct R None xs) ys (distinct_rises None xs climbs) (λ q. same (eq_by_cmp R q) ∙ sym (any-distinct (eq_by_cmp R q) None xs))
