-- Counters of which none was raised: they have no rows, and raise nothing.
use Rattle.std.proofs.Common.{◌≡◌, ◌==◌, true, ℕ, List, [], ◌∷◌, max, length, Option, Some, None, refl, sym, ◌∙◌, ap}
use Rattle.std.proofs.Common.{arith}
use Rattle.std.proofs.Math.Nat.{max-zero}
use Rattle.std.proofs.lemmas.Bool.Decides.{nat_tests}
use Rattle.std.specs.FinMap as map
use Rattle.rds_counts.specs.declared.row.CountRow.{CountRow}
use Rattle.rds_counts.specs.Place.{Place, place_cmp}
use Rattle.rds_counts.specs.PlaceOrder.{place_total, place_exact}
use Rattle.rds_counts.specs.Counted.{Above, Counted, counts_of, number, number_from, AreCountRows}
use Rattle.rds_counts.specs.RowsOf.{rows_of, count_rows}
use Rattle.rds_counts.specs.RowsOfLemmas.{count_rows-counts_of}

no_items : {X : Type 0} (xs : List X) → length xs ≡ 0 → xs ≡ []
no_items [] none = refl
no_items (x ∷ xs) none = absurd (omega (arith, none))

-- a test of the length finds it
pub none_by_test : {X : Type 0} (xs : List X) → (length xs == 0) ≡ true → xs ≡ []
none_by_test xs is = no_items xs (by_test (length xs) is)
  where
    by_test : (n : ℕ) → (n == 0) ≡ true → n ≡ 0
    by_test n h = grind (arith, nat_tests)

pub no_rows : (rows : List CountRow) (m : Counted) → AreCountRows rows → counts_of rows ≡ m → map.len m ≡ 0 → rows ≡ []
no_rows rows m are is none = sym (count_rows-counts_of rows are) ∙ ap count_rows is ∙ ap rows_of (no_items (map.entries m) (sym (map.len-entries m) ∙ none))

pub raises_nothing : (rows : List CountRow) (m : Counted) → rows ≡ [] → counts_of rows ≡ m → (a : ℕ) (q : Place) → a ≡ max a (number m q)
raises_nothing rows m none is a q = sym (max-zero a) ∙ ap (max a) (sym zero_there)
  where
    zero_there : number m q ≡ 0
    zero_there = ap (λ (v : Counted). number v q) (sym is) ∙ ap (λ (l : List CountRow). number (counts_of l) q) none ∙ ap number_from (map.get-from_entries place_total [] q)

-- rows whose numbers are all 0 are none
pub rows_of_zeros : (rows : List CountRow) → AreCountRows rows → ((q : Place) → number (counts_of rows) q ≡ 0) → rows ≡ []
rows_of_zeros rows are zeros =
    no_rows rows (counts_of rows) are refl (ap (λ (m : Counted). map.len m) (map.same_map place_total place_exact (counts_of rows) map.empty (λ q. none (map.get (counts_of rows) q) (zeros q) ∙ sym (map.get-empty place_cmp q))) ∙ map.len-empty place_cmp Above)
  where
    none : (o : Option Above) → number_from o ≡ 0 → o ≡ None
    none None zero_there = refl
    none (Some a) zero_there = absurd (omega (arith, zero_there))
