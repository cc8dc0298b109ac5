-- States that code has within the limits of their types have a text.
use Rattle.std.proofs.Common.{◌≡◌, ℕ, ◌<◌, true, List, [], ◌∷◌, refl, sym, subst}
use Rattle.std.specs.List.{AllByRecursion}
use Rattle.std.specs.FinSet as set
use Rattle.std.proofs.lemmas.Bool.{ltb-true}
use Rattle.rds_names.specs.Conditions.{and_left, and_right}
use Rattle.rds_counts.specs.declared.row.CountRow.{CountRow}
use Rattle.rds_counts.specs.Below.{rows_below}
use Rattle.rds_counts.specs.Counted.{Counted, AreCountRows, counts_of, number}
use Rattle.rds_counts.specs.CountedLemmas.{get-counts_of}
use Rattle.rds_counts.proofs.BelowLemmas.{rows_are_below}
use Rattle.rds_counts.specs.Place.{Place}
use Rattle.rds_dots.specs.declared.dot.Dot.{Dot}
use Rattle.rds_dots.specs.Dots.{is_dot}
use Rattle.rds_life.specs.Life.{seen_of, live_rows}
use Rattle.rds_state.specs.Fits.{Fits}
use Rattle.rds_state.specs.Value.{StateValue, coordinates}
use Rattle.rds_state.proofs.FitsLemmas.{fits_dots}
use Rattle.rds_bytes.specs.Values.{AreCountsOf, IsCountRowOf, IsKeyed, IsLiveRow}
use Rattle.rds_codec.specs.StateTexts.{IsStateOf}

pub is_state_of : (v : StateValue) → ((d : Dot) → set.contains (seen_of v.lives) d ≡ true → is_dot d ≡ true) → AllByRecursion IsLiveRow (live_rows v.lives)
    → ((replicas : ℕ) → ((q : Place) → 0 < number v.counts q → q.replica < replicas) → AreCountsOf replicas v.counts) → (replicas : ℕ) → Fits replicas (coordinates v) → IsStateOf replicas v
is_state_of v dots entries counts replicas fits = record {
  dots = λ d h. (dots d h, fits_dots replicas v (seen_of v.lives) refl fits d h);
  entries = entries;
  counts = counts replicas fits.numbers;
}

keyed_below : (replicas : ℕ) (rows : List CountRow) → AllByRecursion IsKeyed rows → rows_below replicas rows ≡ true → AllByRecursion (IsCountRowOf replicas) rows
keyed_below replicas [] keyed below = tt
keyed_below replicas (r ∷ rows) keyed below =
    ((keyed.0, ltb-true r.replica replicas (and_left _ (rows_below replicas rows) below)), keyed_below replicas rows keyed.1 (and_right _ (rows_below replicas rows) below))

pub are_counts_of : (m : Counted) (rows : List CountRow) → AreCountRows rows → m ≡ counts_of rows → AllByRecursion IsKeyed rows → (replicas : ℕ) → ((q : Place) → 0 < number m q → q.replica < replicas) → AreCountsOf replicas m
are_counts_of m rows are value keyed replicas below =
    let small = rows_are_below replicas rows are (λ q h. below q (subst (λ n. 0 < n) (get-counts_of rows m (sym value) q) h)) in
    record { rows = rows; are_rows = are; each_row = keyed_below replicas rows keyed small; value = sym value }
