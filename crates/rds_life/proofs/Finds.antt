-- A binary search among rows that rise.
use Rattle.std.proofs.Common.{◌≡◌, ℕ, suc, zero, ◌<◌, true, false, cond, List, [], ◌∷◌, length, get_or, Err, Some, None}
use Rattle.std.proofs.Common.{refl, ◌∙◌, ap, subst, arith, inl, inr}
use Rattle.std.specs.List.{list_all}
use Rattle.std.specs.List.Sorted.{IsBinarySearchResult, IsNonDecreasingBy}
use Rattle.std.specs.Ordering.{ordering_index, eq_by_cmp, is_eq}
use Rattle.std.specs.FinMap.{find}
use Rattle.std.specs.declared.cmp.Ordering.TheVariants.{Less, Equal}
use Rattle.std.specs.Cmp.{tied_itself}
use Rattle.std.proofs.lemmas.List.Sorted.{IsNonDecreasingBy-from_default}
use Rattle.std.proofs.lemmas.Bool.{cases_lt}
use Rattle.rds_dots.specs.declared.dot.Dot.{Dot}
use Rattle.rds_dots.specs.Dots.{dot_cmp}
use Rattle.rds_dots.specs.Ascending.{is_above, ascends}
use Rattle.rds_dots.specs.Order.{dots_total, dots_exact, before_after, after_before}
use Rattle.rds_names.specs.Conditions.{and_left, and_right, less_of}
use Rattle.rds_dots.proofs.Search.{index_rises}
use Rattle.rds_life.specs.Life.{keys}

module _ {X : Type 0} where
  pub all_at : (d : Dot) (e : Dot × X) (rows : List (Dot × X)) → list_all (is_above d) (keys rows) ≡ true → (j : ℕ) → j < length rows → dot_cmp d (get_or rows j e).0 ≡ Less
  all_at d e [] all j lt = absurd (omega arith)
  all_at d e (x ∷ rows) all zero lt = less_of (dot_cmp d x.0) (and_left (is_above d x.0) _ all)
  all_at d e (x ∷ rows) all (suc j) lt = all_at d e rows (and_right (is_above d x.0) _ all) j (omega arith)

  pub rises_at : (rows : List (Dot × X)) → ascends (keys rows) ≡ true → (e : Dot × X) (i j : ℕ) → i < j → j < length rows → dot_cmp (get_or rows i e).0 (get_or rows j e).0 ≡ Less
  rises_at [] rise e i j lt within = absurd (omega arith)
  rises_at (x ∷ rows) rise e i zero lt within = absurd (omega arith)
  rises_at (x ∷ rows) rise e zero (suc j) lt within = all_at x.0 e rows (and_left _ (ascends (keys rows)) rise) j (omega arith)
  rises_at (x ∷ rows) rise e (suc i) (suc j) lt within = rises_at rows (and_right (list_all (is_above x.0) (keys rows)) _ rise) e i j (omega arith) (omega arith)

  -- the row at a place is the one that is found
  pub find_at : (rows : List (Dot × X)) → ascends (keys rows) ≡ true → (e : Dot × X) (i : ℕ) → i < length rows → (d : Dot) → dot_cmp (get_or rows i e).0 d ≡ Equal → find dot_cmp d rows ≡ Some (get_or rows i e).1
  find_at [] rise e i lt d same = absurd (omega arith)
  find_at (x ∷ rows) rise e zero lt d same = subst (λ q. cond (eq_by_cmp dot_cmp q x.0) (Some x.1) (find dot_cmp q rows) ≡ Some x.1) (dots_exact x.0 d same) (ap (λ o. cond (is_eq o) (Some x.1) (find dot_cmp x.0 rows)) (tied_itself dots_total x.0))
  find_at (x ∷ rows) rise e (suc i) lt d same =
      let less : dot_cmp x.0 d ≡ Less = subst (λ q. dot_cmp x.0 q ≡ Less) (dots_exact _ d same) (all_at x.0 e rows (and_left _ (ascends (keys rows)) rise) i (omega arith)) in
      ap (λ o. cond (is_eq o) (Some x.1) (find dot_cmp d rows)) (before_after x.0 d less)
      ∙ find_at rows (and_right (list_all (is_above x.0) (keys rows)) _ rise) e i (omega arith) d same

  pub find_none : (rows : List (Dot × X)) (d : Dot) (e : Dot × X) → ((k : ℕ) → k < length rows → eq_by_cmp dot_cmp d (get_or rows k e).0 ≡ false) → find dot_cmp d rows ≡ None
  find_none [] d e none = refl
  find_none (x ∷ rows) d e none = ap (λ b. cond b (Some x.1) (find dot_cmp d rows)) (none 0 (omega arith)) ∙ find_none rows d e (λ k lt. none (suc k) (omega arith))

  pub rising : (rows : List (Dot × X)) → ascends (keys rows) ≡ true → (d : Dot) (e : Dot × X) → IsNonDecreasingBy (λ (row : Dot × X). ordering_index (dot_cmp row.0 d)) rows
  rising rows rise d e = IsNonDecreasingBy-from_default (λ row. ordering_index (dot_cmp row.0 d)) rows e (λ i j le lt.
      elim (cases_lt i j) [ inl less ↦ index_rises _ _ d (rises_at rows rise e i j less lt) | inr ge ↦ let same : i ≡ j = omega arith in let q = ap (λ k. ordering_index (dot_cmp (get_or rows k e).0 d)) same in omega (arith, q) ])

  -- what a search that ends nowhere says
  pub find_gap : (rows : List (Dot × X)) → ascends (keys rows) ≡ true → (d : Dot) (e : Dot × X) (at : ℕ) → IsBinarySearchResult (λ row. dot_cmp row.0 d) rows (Err at) → find dot_cmp d rows ≡ None
  find_gap rows rise d e at parted =
      find_none rows d e (λ k lt. elim (cases_lt k at) [
        | inl below ↦ ap is_eq (before_after _ d ((parted (rising rows rise d e)).0 k e (omega arith) below))
        | inr from ↦ ap is_eq (after_before _ d ((parted (rising rows rise d e)).1 k e from lt))
      ])

  pub find_absent : (rows : List (Dot × X)) → ascends (keys rows) ≡ true → (d : Dot) (at : ℕ) → IsBinarySearchResult (λ row. dot_cmp row.0 d) rows (Err at) → find dot_cmp d rows ≡ None
  find_absent [] rise d at parted = refl
  find_absent (x ∷ rows) rise d at parted = find_gap (x ∷ rows) rise d x at parted

  pub not_none : (e : X) → ¬ (Some e ≡ None)
  not_none e h = cc
