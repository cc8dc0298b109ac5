-- Values that code has within the limits of their types have a text.
use Rattle.std.proofs.Common.{◌≡◌, ℕ, suc, zero, ◌<◌, Bool, true, List, [], ◌∷◌, take, Some, refl, sym, ap, ◌∙◌, subst}
use Rattle.std.specs.Prelude.{slice_get}
use Rattle.std.specs.List.{AllByRecursion, list_all}
use Rattle.std.proofs.lemmas.Bool.{ltb-true}
use Rattle.rds_counts.specs.declared.row.CountRow.{CountRow}
use Rattle.rds_counts.specs.Counted.{Counted, counts_of, number, AreCountRows}
use Rattle.rds_counts.specs.CountedLemmas.{get-counts_of}
use Rattle.rds_counts.specs.Place.{Place}
use Rattle.rds_names.specs.Conditions.{and_true, and_left, and_right}
use Rattle.rds_counts.specs.Below.{rows_below}
use Rattle.rds_counts.proofs.BelowLemmas.{rows_are_below}
use Rattle.rds_bytes.specs.Values.{IsKeyed, IsCountRowOf, AreCountsOf}

-- one more that passes a test
pub all_more : {A : Type 0} (test : A → Bool) (x : A) (xs : List A) → test x ≡ true → list_all test xs ≡ true → list_all test (x ∷ xs) ≡ true
all_more test x xs is all = and_true _ _ is all

pub all_pass : {A : Type 0} (test : A → Bool) (xs : List A) → AllByRecursion (λ x. test x ≡ true) xs → list_all test xs ≡ true
all_pass test [] all = refl
all_pass test (x ∷ xs) all = all_more test x xs all.0 (all_pass test xs all.1)

pub all_taken : {A : Type 0} (test : A → Bool) (xs : List A) (i : ℕ) (x : A) → slice_get xs i ≡ Some x → test x ≡ true → list_all test (take i xs) ≡ true → list_all test (take (suc i) xs) ≡ true
all_taken test [] i x is passes all = absurd (let none : ⊥ = cc in none)
all_taken test (y ∷ ys) zero x is passes all = (let same : y ≡ x = cc in and_true _ _ (ap test same ∙ passes) refl)
all_taken test (y ∷ ys) (suc i) x is passes all = and_true _ _ (and_left (test y) _ all) (all_taken test ys i x is passes (and_right (test y) _ all))

keyed_below : (replicas : ℕ) (rows : List CountRow) → AllByRecursion IsKeyed rows → rows_below replicas rows ≡ true → AllByRecursion (IsCountRowOf replicas) rows
keyed_below replicas [] keyed below = tt
keyed_below replicas (r ∷ rows) keyed below = ((keyed.0, ltb-true r.replica replicas (and_left _ (rows_below replicas rows) below)), keyed_below replicas rows keyed.1 (and_right _ (rows_below replicas rows) below))

pub are_counts_of : (m : Counted) (rows : List CountRow) → AreCountRows rows → m ≡ counts_of rows → AllByRecursion IsKeyed rows → (replicas : ℕ) → ((q : Place) → 0 < number m q → q.replica < replicas) → AreCountsOf replicas m
are_counts_of m rows are value keyed replicas below =
    let small = rows_are_below replicas rows are (λ q h. below q (subst (λ n. 0 < n) (get-counts_of rows m (sym value) q) h)) in
    record { rows = rows; are_rows = are; each_row = keyed_below replicas rows keyed small; value = sym value }
