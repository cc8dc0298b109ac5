-- What a merge of two rising lists of dots has, and that it rises.
use Rattle.std.proofs.Common.{◌≡◌, Bool, true, false, ◌&&◌, ◌||◌, List, [], ◌∷◌, length, refl, sym, ◌∙◌, ap, arith}
use Rattle.rds_names.specs.Conditions.{and_true, and_left, and_right, less_of}
use Rattle.rds_dots.specs.declared.dot.Dot.{Dot}
use Rattle.std.proofs.Math.Bool.{and_assoc, or_assoc}
use Rattle.std.specs.List.{list_any, list_all}
use Rattle.std.specs.Ordering.{is_lt}
use Rattle.std.specs.declared.cmp.Ordering.TheVariants.{Less, Equal, Greater}
use Rattle.rds_dots.specs.Dots.{dot_cmp}
use Rattle.rds_dots.specs.Ascending.{is_above, ascends}
use Rattle.rds_dots.specs.Merged.{merge_of, merge_onto, by_order}
use Rattle.rds_dots.specs.Order.{dots_total, dots_exact, after_before}

-- nothing to draw in
pub merge_of-[] : (xs : List Dot) → merge_of xs [] ≡ xs
merge_of-[] [] = refl
merge_of-[] (x ∷ xs) = ap (λ l. x ∷ l) (merge_of-[] xs)

-- nothing more to draw in
pub merged_end : (xs ys : List Dot) → length ys ≡ 0 → merge_of xs ys ≡ xs
merged_end xs [] none = merge_of-[] xs
merged_end xs (y ∷ ys) none = absurd (omega arith)

or_swap : (a b c : Bool) → (a || (b || c)) ≡ (b || (a || c))
or_swap true true c = refl
or_swap true false c = refl
or_swap false b c = refl

or_twice : (a b c d : Bool) → a ≡ d → (a || (b || c)) ≡ ((a || b) || (d || c))
or_twice true b c d e = refl
or_twice false true c d e = refl
or_twice false false c d e = ap (λ x. x || c) e

and_swap : (a b c : Bool) → (a && (b && c)) ≡ (b && (a && c))
and_swap true b c = refl
and_swap false true c = refl
and_swap false false c = refl

and_twice : (a b c d : Bool) → a ≡ d → (a && (b && c)) ≡ ((a && b) && (d && c))
and_twice true true c d e = ap (λ x. x && c) e
and_twice true false c d e = refl
and_twice false b c d e = refl

module _ (p : Dot → Bool) where
  -- what a merge has is in one of the two
  any-merge_onto : (x : Dot) (xs : List Dot) (rest : List Dot → List Dot) → ((ys : List Dot) → list_any p (rest ys) ≡ (list_any p xs || list_any p ys)) → (ys : List Dot) → list_any p (merge_onto x rest ys) ≡ ((p x || list_any p xs) || list_any p ys)
  any-merge_onto x xs rest h [] = ap (λ b. p x || b) (h []) ∙ sym (or_assoc (p x) _ _)
  any-merge_onto x xs rest h (y ∷ ys) =
      let again = any-merge_onto x xs rest h ys in
      elim (dot_cmp x y) as (λ o. dot_cmp x y ≡ o → list_any p (by_order o (x ∷ rest (y ∷ ys)) (x ∷ rest ys) (y ∷ merge_onto x rest ys)) ≡ ((p x || list_any p xs) || (p y || list_any p ys))) [
        | Less ↦ λ is. ap (λ b. p x || b) (h (y ∷ ys)) ∙ sym (or_assoc (p x) _ _)
        | Equal ↦ λ is. ap (λ b. p x || b) (h ys) ∙ or_twice (p x) _ _ (p y) (ap p (dots_exact x y is))
        | Greater ↦ λ is. ap (λ b. p y || b) again ∙ or_swap (p y) _ _
      ] refl

  pub any-merge_of : (xs ys : List Dot) → list_any p (merge_of xs ys) ≡ (list_any p xs || list_any p ys)
  any-merge_of [] ys = refl
  any-merge_of (x ∷ xs) ys = any-merge_onto x xs (merge_of xs) (any-merge_of xs) ys

  -- and what holds of both holds of it
  all-merge_onto : (x : Dot) (xs : List Dot) (rest : List Dot → List Dot) → ((ys : List Dot) → list_all p (rest ys) ≡ (list_all p xs && list_all p ys)) → (ys : List Dot) → list_all p (merge_onto x rest ys) ≡ ((p x && list_all p xs) && list_all p ys)
  all-merge_onto x xs rest h [] = ap (λ b. p x && b) (h []) ∙ sym (and_assoc (p x) _ _)
  all-merge_onto x xs rest h (y ∷ ys) =
      let again = all-merge_onto x xs rest h ys in
      elim (dot_cmp x y) as (λ o. dot_cmp x y ≡ o → list_all p (by_order o (x ∷ rest (y ∷ ys)) (x ∷ rest ys) (y ∷ merge_onto x rest ys)) ≡ ((p x && list_all p xs) && (p y && list_all p ys))) [
        | Less ↦ λ is. ap (λ b. p x && b) (h (y ∷ ys)) ∙ sym (and_assoc (p x) _ _)
        | Equal ↦ λ is. ap (λ b. p x && b) (h ys) ∙ and_twice (p x) _ _ (p y) (ap p (dots_exact x y is))
        | Greater ↦ λ is. ap (λ b. p y && b) again ∙ and_swap (p y) _ _
      ] refl

  pub all-merge_of : (xs ys : List Dot) → list_all p (merge_of xs ys) ≡ (list_all p xs && list_all p ys)
  all-merge_of [] ys = refl
  all-merge_of (x ∷ xs) ys = all-merge_onto x xs (merge_of xs) (all-merge_of xs) ys

pub less_is_above : (x y : Dot) → dot_cmp x y ≡ Less → is_above x y ≡ true
less_is_above x y is = ap is_lt is

-- what is above y is above all that y is above
pub above_trans : (x y : Dot) → dot_cmp x y ≡ Less → (zs : List Dot) → list_all (is_above y) zs ≡ true → list_all (is_above x) zs ≡ true
above_trans x y is [] h = refl
above_trans x y is (z ∷ zs) h = and_true (is_above x z) _ (less_is_above x z (dots_total.trans x y z is (less_of (dot_cmp y z) (and_left (is_above y z) _ h)))) (above_trans x y is zs (and_right (is_above y z) _ h))

ascends-merge_onto : (x : Dot) (xs : List Dot) (rest : List Dot → List Dot) → ((p : Dot → Bool) (ys : List Dot) → list_all p (rest ys) ≡ (list_all p xs && list_all p ys)) → ((ys : List Dot) → ascends ys ≡ true → ascends (rest ys) ≡ true) → list_all (is_above x) xs ≡ true → (ys : List Dot) → ascends ys ≡ true → ascends (merge_onto x rest ys) ≡ true
ascends-merge_onto x xs rest all asc front [] rise = and_true _ _ (all (is_above x) [] ∙ and_true _ _ front refl) (asc [] refl)
ascends-merge_onto x xs rest all asc front (y ∷ ys) rise =
    let first = and_left (list_all (is_above y) ys) _ rise in
    let later = and_right (list_all (is_above y) ys) _ rise in
    let again = ascends-merge_onto x xs rest all asc front ys later in
    elim (dot_cmp x y) as (λ o. dot_cmp x y ≡ o → ascends (by_order o (x ∷ rest (y ∷ ys)) (x ∷ rest ys) (y ∷ merge_onto x rest ys)) ≡ true) [
      | Less ↦ λ is. and_true _ _ (all (is_above x) (y ∷ ys) ∙ and_true _ _ front (and_true (is_above x y) _ (less_is_above x y is) (above_trans x y is ys first))) (asc (y ∷ ys) rise)
      | Equal ↦ λ is. and_true _ _ (all (is_above x) ys ∙ and_true _ _ front (ap (λ d. list_all (is_above d) ys) (dots_exact x y is) ∙ first)) (asc ys later)
      | Greater ↦ λ is. and_true _ _ (all-merge_onto (is_above y) x xs rest (all (is_above y)) ys ∙ and_true _ _ (and_true (is_above y x) _ (less_is_above y x (after_before x y is)) (above_trans y x (after_before x y is) xs front)) first) again
    ] refl

-- a merge of two lists that rise rises
pub ascends-merge_of : (xs ys : List Dot) → ascends xs ≡ true → ascends ys ≡ true → ascends (merge_of xs ys) ≡ true
ascends-merge_of [] ys a b = b
ascends-merge_of (x ∷ xs) ys a b = ascends-merge_onto x xs (merge_of xs) (λ p. all-merge_of p xs) (λ zs. ascends-merge_of xs zs (and_right (list_all (is_above x) xs) _ a)) (and_left (list_all (is_above x) xs) _ a) ys b
