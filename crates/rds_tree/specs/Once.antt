-- Each member once, ascending.
use Rattle.std.specs.Prelude.{◌≡◌, true, ◌&&◌, List, [], ◌∷◌, map, Option, Some, None, is_some, refl, T}
use Rattle.std.proofs.Common.{ap, sym, ◌∙◌, subst}
use Rattle.std.specs.List.{list_any, AllByRecursion}
use Rattle.std.specs.Ordering.{eq_by_cmp, is_lt}
use Rattle.std.specs.declared.cmp.Ordering.{Ordering}
use Rattle.std.specs.declared.cmp.Ordering.TheVariants.{Less}
use Rattle.std.specs.Cmp.{IsTotalOrder}
use Rattle.std.specs.List.Sorted.{IsStrictlySortedBy}
use Rattle.std.specs.FinMap as map_of

abbrev pub marks : {K : Type 0} → List K → List (K × Unit {0})
marks ks = map (λ k. (k, tt)) ks

pub firsts-marks : {K : Type 0} (ks : List K) → map (λ e. e.0) (marks ks) ≡ ks
firsts-marks [] = refl
firsts-marks (k ∷ ks) = ap (λ xs. k ∷ xs) (firsts-marks ks)

module _ {K : Type 0} (R : K → K → Ordering) where
  below_marked : (x : K) (ks : List K) → AllByRecursion (λ y. R x y ≡ Less) ks → map_of.Entries.below_all R x (marks ks) ≡ true
  below_marked x [] h = refl
  below_marked x (k ∷ ks) h = ap (λ o. is_lt o && map_of.Entries.below_all R x (marks ks)) h.0 ∙ below_marked x ks h.1

  is_sorted-marks : (ks : List K) → IsStrictlySortedBy R ks → map_of.is_sorted R (marks ks) ≡ true
  unfolding IsStrictlySortedBy
  is_sorted-marks [] h = refl
  is_sorted-marks (k ∷ ks) h = ap (λ b. b && map_of.is_sorted R (marks ks)) (below_marked k ks h.0) ∙ is_sorted-marks ks h.1

-- each member of a list once, ascending
abbrev pub once : {K : Type 0} (R : K → K → Ordering) → List K → List K
once R ks = map_of.keys (map_of.from_entries {R = R} (marks ks))

same_units : (a b : Option (Unit {0})) → is_some a ≡ is_some b → a ≡ b
same_units None None h = refl
same_units None (Some u) h = absurd (cc)
same_units (Some u) None h = absurd (cc)
same_units (Some u) (Some v) h = refl

module _ {K : Type 0} {R : K → K → Ordering} (total : IsTotalOrder R) (exact : map_of.IsAntisymmetric R) where
  found_as : (ks vs : List K) (q : K) → list_any (eq_by_cmp R q) vs ≡ list_any (eq_by_cmp R q) ks → map_of.find R q (marks vs) ≡ map_of.find R q (marks ks)
  found_as ks vs q same =
      same_units _ _ (map_of.Entries.is_some-find R q (marks vs) ∙ ap (list_any (eq_by_cmp R q)) (firsts-marks vs) ∙ same ∙ sym (map_of.Entries.is_some-find R q (marks ks) ∙ ap (list_any (eq_by_cmp R q)) (firsts-marks ks)))

  -- a list that strictly rises lists its members once, ascending
  pub once_is : (ks vs : List K) → IsStrictlySortedBy R ks → ((q : K) → list_any (eq_by_cmp R q) vs ≡ list_any (eq_by_cmp R q) ks) → once R vs ≡ ks
  once_is ks vs rise same =
      let sorted : T (map_of.is_sorted R (marks ks)) = subst T (sym (is_sorted-marks R ks rise)) tt in
      let one = map_of.same_map total exact (map_of.from_entries {R = R} (marks vs)) (map_of.from_sorted {R = R} (marks ks)) (λ q.
      map_of.get-from_entries total (marks vs) q ∙ found_as ks vs q (same q) ∙ sym (map_of.get-from_sorted R (marks ks) q sorted)) in
      ap map_of.keys one ∙ ap (map (λ e. e.0)) (map_of.entries-from_sorted R (marks ks) sorted) ∙ firsts-marks ks

  -- lists with the same members
  pub once_same : (xs ys : List K) → ((q : K) → list_any (eq_by_cmp R q) xs ≡ list_any (eq_by_cmp R q) ys) → once R xs ≡ once R ys
  once_same xs ys same =
      ap map_of.keys (map_of.same_map total exact (map_of.from_entries {R = R} (marks xs)) (map_of.from_entries {R = R} (marks ys)) (λ q.
      map_of.get-from_entries total (marks xs) q ∙ found_as ys xs q (same q) ∙ sym (map_of.get-from_entries total (marks ys) q)))
