-- A list that rises, cut where the dots after a given one begin.
use Rattle.std.proofs.Common.{◌≡◌, ℕ, suc, zero, ◌<◌, ◌≤◌, Bool, true, false, not, List, [], ◌∷◌, length, get_or, take}
use Rattle.std.proofs.Common.{drop, None, refl, sym, ◌∙◌, ap, arith, inl, inr}
use mathlib.Core.Bool.{false≢true}
use Rattle.std.specs.List.{list_all}
use Rattle.std.specs.List.Sorted.{IsPartitionPoint, IsPartitionedBy}
use Rattle.std.specs.Ordering.{is_lt, is_le, ordering_reverse}
use Rattle.std.specs.declared.cmp.Ordering.TheVariants.{Less, Equal, Greater}
use Rattle.std.proofs.lemmas.Bool.{cases_lt, not-false}
use Rattle.rds_dots.specs.declared.dot.Dot.{Dot}
use Rattle.rds_dots.specs.Dots.{dot_cmp, comes_after}
use Rattle.rds_dots.specs.Ascending.{is_above, ascends}
use Rattle.rds_dots.specs.Order.{dots_total, before_after, after_before}
use Rattle.rds_names.specs.Conditions.{and_true, less_of}
use Rattle.rds_dots.proofs.Search.{rises_at}

pub all_taken : (p : Dot → Bool) (xs : List Dot) (i : ℕ) → ((k : ℕ) (d : Dot) → k < i → p (get_or xs k d) ≡ true) → list_all p (take i xs) ≡ true
all_taken p [] zero each = refl
all_taken p [] (suc i) each = refl
all_taken p (x ∷ xs) zero each = refl
all_taken p (x ∷ xs) (suc i) each = and_true (p x) _ (each 0 x (omega arith)) (all_taken p xs i (λ k d lt. each (suc k) d (omega arith)))

pub all_dropped : (p : Dot → Bool) (xs : List Dot) (i : ℕ) → ((k : ℕ) (d : Dot) → i ≤ k → k < length xs → p (get_or xs k d) ≡ true) → list_all p (drop i xs) ≡ true
all_dropped p [] zero each = refl
all_dropped p [] (suc i) each = refl
all_dropped p (x ∷ xs) zero each = and_true (p x) _ (each 0 x (omega arith) (omega arith)) (all_dropped p xs zero (λ k d le lt. each (suc k) d (omega arith) (omega arith)))
all_dropped p (x ∷ xs) (suc i) each = all_dropped p xs i (λ k d le lt. each (suc k) d (omega arith) (omega arith))

-- what doesn't come after the given dot is at most it
pub at_most_is : (d e : Dot) → is_le (dot_cmp d e) ≡ not (is_above e d)
at_most_is d e =
    elim (dot_cmp e d) as (λ o. dot_cmp e d ≡ o → is_le (dot_cmp d e) ≡ not (is_lt o)) [
      | Less ↦ λ is. ap is_le (before_after e d is)
      | Equal ↦ λ is. ap is_le (dots_total.antisymm d e ∙ ap ordering_reverse is)
      | Greater ↦ λ is. ap is_le (after_before e d is)
    ] refl

-- a dot that a later one passes is passed
not_above : (last d e : Dot) → dot_cmp d e ≡ Less → not (is_above last e) ≡ true → not (is_above last d) ≡ true
not_above last d e less h =
    elim (is_above last d) as (λ b. is_above last d ≡ b → not b ≡ true) [
      | true ↦ λ is. absurd (false≢true (ap (λ o. not (is_lt o)) (sym (dots_total.trans last d e (less_of (dot_cmp last d) is) less)) ∙ h))
      | false ↦ λ _. refl
    ] refl

pub parted : (ds : List Dot) → ascends ds ≡ true → (last : Dot) → IsPartitionedBy (λ d. not (is_above last d)) ds
parted ds rise last = λ i j d le lt h. elim (cases_lt i j) [
  | inl less ↦ not_above last (get_or ds i d) (get_or ds j d) (rises_at ds rise d i j less lt) h
  | inr ge ↦ (let same : i ≡ j = omega arith in ap (λ k. not (is_above last (get_or ds k d))) same ∙ h)
]

-- what a partition by a dot cuts
pub front_upto : (ds : List Dot) (last : Dot) (i : ℕ) → IsPartitionPoint (λ d. not (is_above last d) ≡ true) (λ d. not (is_above last d) ≡ false) ds i → list_all (λ d. not (is_above last d)) (take i ds) ≡ true
front_upto ds last i point = all_taken _ ds i (λ k d lt. point.0 k d (omega arith) lt)

pub back_after : (ds : List Dot) (last : Dot) (i : ℕ) → IsPartitionPoint (λ d. not (is_above last d) ≡ true) (λ d. not (is_above last d) ≡ false) ds i → list_all (is_above last) (drop i ds) ≡ true
back_after ds last i point = all_dropped (is_above last) ds i (λ k d le lt. not-false _ (point.1 k d le lt))

pub all_after : (ds : List Dot) → list_all (comes_after None) ds ≡ true
all_after [] = refl
all_after (d ∷ ds) = all_after ds
