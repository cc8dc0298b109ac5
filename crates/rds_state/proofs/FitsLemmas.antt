-- Which states fit: rows say it, no coordinate breaks it, and joins keep it.
use Rattle.std.proofs.Common.{◌≡◌, ℕ, zero, suc, ◌≤◌, ◌<◌, true, max, List, Option, Some, None, Result, Ok, Err, refl}
use Rattle.std.proofs.Common.{sym, ◌∙◌, ap, subst, arith, OnOk, OnErr}
use mathlib.Core.Bool.{false≢true}
use Rattle.std.specs.Prelude.{is_some}
use Rattle.std.specs.FinMap as map
use Rattle.std.specs.FinSet as set
use Rattle.rds_names.specs.declared.fault.Fault.{Fault}
use Rattle.rds_dots.specs.declared.dot.Dot.{Dot}
use Rattle.rds_dots.specs.Dots.{Dots, dot_cmp}
use Rattle.rds_counts.specs.declared.row.CountRow.{CountRow}
use Rattle.rds_counts.specs.Place.{Place, place_cmp}
use Rattle.rds_counts.specs.Counted.{Above, Counted, number, number_from, counts_of, AreCountRows}
use Rattle.rds_counts.specs.CountedLemmas.{get-counts_of}
use Rattle.rds_life.specs.Life.{Life, Live, Dead, Lived, join_life, seen_of}
use Rattle.rds_life.proofs.Views.{contains-seen_of}
use Rattle.rds_state.specs.Coordinates.{Coordinates, join}
use Rattle.rds_state.specs.Fits.{Fits}
use Rattle.rds_counts.specs.Below.{rows_below}
use Rattle.rds_counts.proofs.BelowLemmas.{numbers_below, rows_are_below}
use Rattle.rds_state.specs.Value.{StateValue, coordinates}

-- ---- joins

life_joined : (a b : Option Life) (X : Type 0) → (is_some a ≡ true → X) → (is_some b ≡ true → X) → is_some (join_life a b) ≡ true → X
life_joined None b X p q h = q h
life_joined (Some (Live e)) b X p q h = p refl
life_joined (Some Dead) b X p q h = p refl

above_joined : (a b n r : ℕ) → (0 < a → r < n) → (0 < b → r < n) → 0 < max a b → r < n
above_joined zero b n r p q h = q (omega (arith, h))
above_joined (suc a) b n r p q h = p (omega arith)

pub join_fits : (n : ℕ) (a b : Coordinates) → Fits n a → Fits n b → Fits n (join a b)
join_fits n a b p q = record {
  dots = λ d h. life_joined (a.life d) (b.life d) (d.replica < n) (p.dots d) (q.dots d) h;
  numbers = λ x h. above_joined (a.number x) (b.number x) n x.replica (p.numbers x) (q.numbers x) h;
}

-- what a merge leaves fits, whether it was refused or not
pub merge_fits : (n : ℕ) (a b c : StateValue) (r : Result (Unit {0}) Fault) → OnOk r (coordinates c ≡ join (coordinates a) (coordinates b)) → OnErr r (c ≡ a) → Fits n (coordinates a) → Fits n (coordinates b) → Fits n (coordinates c)
merge_fits n a b c (Ok x) ok err p q = subst (Fits n) (sym ok) (join_fits n (coordinates a) (coordinates b) p q)
merge_fits n a b c (Err f) ok err p q = subst (λ v. Fits n (coordinates v)) (sym err) p

-- what fits some replicas fits more
pub fits_more : (n m : ℕ) (a : Coordinates) → n ≤ m → Fits n a → Fits m a
fits_more n m a le fits = record {
  dots = λ d h. let below = fits.dots d h in omega (arith, below);
  numbers = λ q h. let below = fits.numbers q h in omega (arith, below);
}

no_dot : (v : Lived) → v ≡ map.empty → (d : Dot) → is_some (map.get v d) ≡ true → ⊥
no_dot v e d h = false≢true (sym (ap (λ l. is_some (map.get l d)) e ∙ ap is_some (map.get-empty {X = Life} dot_cmp d)) ∙ h)

no_number : (v : Counted) → v ≡ map.empty → (q : Place) → 0 < number v q → ⊥
no_number v e q h = let z : number v q ≡ 0 = ap (λ m. number m q) e ∙ ap number_from (map.get-empty {X = Above} place_cmp q) in absurd (omega (arith, z, h))

pub empty_fits : (n : ℕ) (v : StateValue) → v.lives ≡ map.empty → v.counts ≡ map.empty → Fits n (coordinates v)
empty_fits n v l c = record { dots = λ d h. absurd (no_dot v.lives l d h); numbers = λ q h. absurd (no_number v.counts c q h) }

-- ---- a state, by its seen dots and its rows

module _ (replicas : ℕ) (v : StateValue) (dots : Dots) (seen : dots ≡ seen_of v.lives) where
  is_seen : (d : Dot) → set.contains dots d ≡ is_some (map.get v.lives d)
  is_seen d = ap (λ s. set.contains s d) seen ∙ contains-seen_of v.lives d

  pub fits_dots : Fits replicas (coordinates v) → (d : Dot) → set.contains dots d ≡ true → d.replica < replicas
  fits_dots fits d h = fits.dots d (sym (is_seen d) ∙ h)

  module _ (rows : List CountRow) (are : AreCountRows rows) (value : counts_of rows ≡ v.counts) where
    pub fits_by : ((d : Dot) → set.contains dots d ≡ true → d.replica < replicas) → rows_below replicas rows ≡ true → Fits replicas (coordinates v)
    fits_by below all = record {
      dots = λ d h. below d (is_seen d ∙ h);
      numbers = λ q h. numbers_below replicas rows all q (subst (λ n. 0 < n) (sym (get-counts_of rows v.counts value q)) h);
    }

    pub rows_fit : Fits replicas (coordinates v) → rows_below replicas rows ≡ true
    rows_fit fits = rows_are_below replicas rows are (λ q h. fits.numbers q (subst (λ n. 0 < n) (get-counts_of rows v.counts value q) h))
