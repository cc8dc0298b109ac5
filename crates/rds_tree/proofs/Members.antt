-- Lists and what is made of them: which tests their members pass.
use Rattle.std.proofs.Common.{◌≡◌, Bool, true, false, ◌||◌, List, [], ◌∷◌, map, refl, sym, ◌∙◌, ap}
use Rattle.std.specs.Prelude.{is_some}
use Rattle.std.specs.List.{list_any, AllByRecursion}
use Rattle.std.specs.List.Sorted.{IsStrictlySortedBy}
use Rattle.std.specs.Ordering.{eq_by_cmp, is_eq, is_lt}
use Rattle.std.specs.declared.cmp.Ordering.{Ordering}
use Rattle.std.specs.declared.cmp.Ordering.TheVariants.{Less}
use Rattle.std.specs.Cmp.{IsTotalOrder, tied_itself}
use Rattle.std.specs.FinMap as map_of
use Rattle.rds_names.specs.Conditions.{true_of, less_of, and_left, and_right, equal_of}
use Rattle.rds_tree.specs.Once.{once, marks, firsts-marks}
use Rattle.rds_tree.proofs.Witness.{both_ways, or_left, or_right}

-- some member passes
pub some_passes : {X : Type 0} (t : X → Bool) (xs : List X) → list_any t xs ≡ true → (x : X) × (t x ≡ true)
some_passes t [] h = absurd (cc)
some_passes {X} t (x ∷ xs) h = elim (t x) as (λ b. t x ≡ b → (b || list_any t xs) ≡ true → (y : X) × (t y ≡ true)) [
  | true ↦ λ is _. (x, is)
  | false ↦ λ _ g. some_passes t xs g
] refl h

-- what passes one test passes the other
pub any_wider : {X : Type 0} (t u : X → Bool) (xs : List X) → ((x : X) → t x ≡ true → u x ≡ true) → list_any t xs ≡ true → list_any u xs ≡ true
any_wider t u [] wider h = h
any_wider t u (x ∷ xs) wider h = elim (t x) as (λ b. t x ≡ b → (b || list_any t xs) ≡ true → (u x || list_any u xs) ≡ true) [
  | true ↦ λ is _. or_left (u x) _ (wider x is)
  | false ↦ λ _ g. or_right (u x) _ (any_wider t u xs wider g)
] refl h

module _ {K : Type 0} {R : K → K → Ordering} (total : IsTotalOrder R) (exact : map_of.IsAntisymmetric R) where
  abbrev PassingMember : (K → Bool) → List K → Type 0
  PassingMember t xs = (k : K) × ((list_any (eq_by_cmp R k) xs ≡ true) × (t k ≡ true))

  passing_member : (t : K → Bool) (xs : List K) → list_any t xs ≡ true → PassingMember t xs
  passing_member t [] h = absurd (cc)
  passing_member t (x ∷ xs) h = elim (t x) as (λ b. t x ≡ b → (b || list_any t xs) ≡ true → PassingMember t (x ∷ xs)) [
    | true ↦ λ is _. (x, (or_left (eq_by_cmp R x x) _ (ap is_eq (tied_itself total x)), is))
    | false ↦ λ _ g. let p = passing_member t xs g in (p.0, (or_right (eq_by_cmp R p.0 x) _ p.1.0, p.1.1))
  ] refl h

  member_passes : (t : K → Bool) (k : K) (xs : List K) → list_any (eq_by_cmp R k) xs ≡ true → t k ≡ true → list_any t xs ≡ true
  member_passes t k [] here h = absurd (cc)
  member_passes t k (x ∷ xs) here h = elim (eq_by_cmp R k x) as (λ b. eq_by_cmp R k x ≡ b → (b || list_any (eq_by_cmp R k) xs) ≡ true → (t x || list_any t xs) ≡ true) [
    | true ↦ λ is _. or_left (t x) _ (ap t (sym (exact k x (equal_of _ is))) ∙ h)
    | false ↦ λ _ g. or_right (t x) _ (member_passes t k xs g h)
  ] refl here

  member-once : (q : K) (xs : List K) → list_any (eq_by_cmp R q) (once R xs) ≡ list_any (eq_by_cmp R q) xs
  member-once q xs =
      let m = map_of.from_entries {R = R} (marks xs) in
      sym (map_of.Entries.is_some-find R q (map_of.entries m)) ∙ ap is_some (sym (map_of.get-entries m q) ∙ map_of.get-from_entries total (marks xs) q)
      ∙ map_of.Entries.is_some-find R q (marks xs) ∙ ap (list_any (eq_by_cmp R q)) (firsts-marks xs)

  -- the members, each once, are the same members
  pub any-once : (t : K → Bool) (xs : List K) → list_any t (once R xs) ≡ list_any t xs
  any-once t xs = both_ways _ _
      (λ h. let p = passing_member t (once R xs) h in member_passes t p.0 xs (sym (member-once p.0 xs) ∙ p.1.0) p.1.1)
      (λ h. let p = passing_member t xs h in member_passes t p.0 (once R xs) (member-once p.0 xs ∙ p.1.0) p.1.1)

module _ {K X : Type 0} (R : K → K → Ordering) where
  all_less : (k : K) (es : List (K × X)) → map_of.Entries.below_all R k es ≡ true → AllByRecursion (λ q. R k q ≡ Less) (map (λ e. e.0) es)
  all_less k [] h = tt
  all_less k (e ∷ es) h = (less_of _ (and_left (is_lt (R k e.0)) _ h), all_less k es (and_right (is_lt (R k e.0)) _ h))

  firsts_rise : (es : List (K × X)) → map_of.is_sorted R es ≡ true → IsStrictlySortedBy R (map (λ e. e.0) es)
  unfolding IsStrictlySortedBy
  firsts_rise [] h = tt
  firsts_rise (e ∷ es) h = (all_less e.0 es (and_left (map_of.Entries.below_all R e.0 es) _ h), firsts_rise es (and_right (map_of.Entries.below_all R e.0 es) _ h))

-- each once, they ascend
pub once_rises : {K : Type 0} (R : K → K → Ordering) (xs : List K) → IsStrictlySortedBy R (once R xs)
once_rises R xs = let m = map_of.from_entries {R = R} (marks xs) in firsts_rise R (map_of.entries m) (true_of _ (map_of.entries_sorted m))
