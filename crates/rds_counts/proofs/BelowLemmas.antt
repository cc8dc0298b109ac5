-- Rows whose replicas are below a number, by the numbers that they stand for.
use Rattle.std.proofs.Common.{◌≡◌, ℕ, zero, suc, ◌<◌, Bool, true, false, ◌&&◌, cond, List, [], ◌∷◌, refl, sym, subst}
use Rattle.std.proofs.Common.{arith, nat_lt, ◌||◌, ◌⊎◌, inl, inr}
use Rattle.std.specs.Prelude.{nat_le}
use Rattle.std.specs.List.{list_all}
use Rattle.std.specs.Ordering.{eq_by_cmp, is_lt}
use Rattle.std.proofs.lemmas.Bool.Decides.{nat_tests}
use Rattle.rds_names.specs.Conditions.{and_true, and_left, and_right, equal_of}
use Rattle.rds_counts.specs.declared.row.Which.{Which}
use Rattle.rds_counts.specs.declared.row.Which.TheVariants.{P, N}
use Rattle.rds_counts.specs.declared.row.CountRow.{CountRow}
use Rattle.rds_counts.specs.declared.row.TheConstants.{MAX_COUNT}
use Rattle.rds_counts.specs.Place.{Place, place_cmp}
use Rattle.rds_counts.specs.PlaceOrder.{place_exact}
use Rattle.rds_counts.specs.Counted.{place, is_row, row_cmp, AreCountRows}
use Rattle.rds_counts.specs.CountedLemmas.{some, number_in, number-row, number-own}
use Rattle.rds_counts.specs.Below.{rows_below}

lt_is : (a b : ℕ) → a < b → nat_lt a b ≡ true
lt_is a b h = grind (arith, nat_tests)

lt_of : (a b : ℕ) → nat_lt a b ≡ true → a < b
lt_of a b h = grind (arith, nat_tests)

-- where the first two tests fail, the number is that of the rest
by_tests : (s t : Bool) (p n rest : ℕ) (X : Type 0) → (s ≡ true → X) → (t ≡ true → X) → (0 < rest → X) → 0 < cond (s && some p) p (cond (t && some n) n rest) → X
by_tests true t p n rest X x y z h = x refl
by_tests false true p n rest X x y z h = y refl
by_tests false false p n rest X x y z h = z h

pub numbers_below : (replicas : ℕ) (rows : List CountRow) → rows_below replicas rows ≡ true → (q : Place) → 0 < number_in rows q → q.replica < replicas
numbers_below replicas [] all q h = absurd (omega (arith, h))
numbers_below replicas (r ∷ rows) all q h =
    let below = lt_of r.replica replicas (and_left (nat_lt r.replica replicas) _ all) in
    let same : (w : Which) → eq_by_cmp place_cmp q (place r.key r.replica w) ≡ true → q.replica < replicas = λ w e. subst (λ (x : Place). x.replica < replicas) (sym (place_exact q (place r.key r.replica w) (equal_of _ e))) below in
    by_tests (eq_by_cmp place_cmp q (place r.key r.replica P)) (eq_by_cmp place_cmp q (place r.key r.replica N)) r.p r.n (number_in rows q) (q.replica < replicas)
    (same P) (same N) (numbers_below replicas rows (and_right (nat_lt r.replica replicas) _ all) q) (subst (λ n. 0 < n) (number-row q r rows) h)

still_above : (s t : Bool) (p n rest : ℕ) → 0 < rest → 0 < cond (s && some p) p (cond (t && some n) n rest)
still_above s t p n rest h = by s t p n
  where
    later : (t : Bool) (n : ℕ) → 0 < cond (t && some n) n rest
    later true zero = h
    later true (suc n) = omega arith
    later false n = h

    by : (s t : Bool) (p n : ℕ) → 0 < cond (s && some p) p (cond (t && some n) n rest)
    by true t zero n = later t n
    by true t (suc p) n = omega arith
    by false t p n = later t n

either_above : (p n m r : ℕ) → ((nat_lt 0 p || nat_lt 0 n) && nat_le p m && nat_le n m && nat_lt r 256) ≡ true → (0 < p) ⊎ (0 < n)
either_above zero n m r h = inr (grind (arith, nat_tests))
either_above (suc p) n m r h = inl (omega arith)

pub rows_are_below : (replicas : ℕ) (rows : List CountRow) → AreCountRows rows → ((q : Place) → 0 < number_in rows q → q.replica < replicas) → rows_below replicas rows ≡ true
rows_are_below replicas [] are each = refl
rows_are_below replicas (r ∷ rows) are each =
    let all = and_left (list_all (λ t. is_lt (row_cmp r t)) rows) _ are.rise in
    let later : AreCountRows rows = record { rise = and_right (list_all (λ t. is_lt (row_cmp r t)) rows) _ are.rise; are = and_right (is_row r) _ are.are } in
    let own_p : number_in (r ∷ rows) (place r.key r.replica P) ≡ r.p = number-own r rows P all in
    let own_n : number_in (r ∷ rows) (place r.key r.replica N) ≡ r.n = number-own r rows N all in
    let below : r.replica < replicas = elim (either_above r.p r.n MAX_COUNT r.replica (and_left (is_row r) _ are.are)) [
      | inl p ↦ each (place r.key r.replica P) (omega (arith, own_p, p))
      | inr n ↦ each (place r.key r.replica N) (omega (arith, own_n, n))
    ] in
    and_true _ _ (lt_is r.replica replicas below)
    (rows_are_below replicas rows later (λ q h. each q (subst (λ n. 0 < n) (sym (number-row q r rows)) (still_above _ _ r.p r.n (number_in rows q) h))))
