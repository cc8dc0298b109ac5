-- What drawn rows say.
use Rattle.std.proofs.Common.{◌≡◌, ℕ, zero, suc, Bool, true, false, ◌&&◌, ◌||◌, cond, max, nat_lt, List, [], ◌∷◌, refl}
use Rattle.std.proofs.Common.{sym, ◌∙◌, ap, subst, arith}
use mathlib.Core.Bool.{false≢true}
use Rattle.std.specs.Prelude.{nat_le}
use Rattle.std.specs.List.{list_all}
use Rattle.std.proofs.lemmas.Bool.Decides.{nat_tests}
use Rattle.std.specs.Cmp.{nat_cmp_total, tied_itself}
use Rattle.std.specs.Cmp.Lexicographic.{slice_cmp, nat_list_cmp_total}
use Rattle.std.specs.Ordering.{nat_cmp, ordering_then, is_lt, eq_by_cmp, ordering_reverse}
use Rattle.std.specs.declared.cmp.Ordering.TheVariants.{Less, Equal, Greater}
use Rattle.std.specs.FinMap.Entries.{by_order}
use Rattle.std.proofs.lemmas.Map.Lookups.{exact_pairs, exact_unsigned, exact_bytes}
use Rattle.rds_counts.specs.declared.row.Which.TheVariants.{P, N}
use Rattle.rds_counts.specs.declared.row.CountRow.{CountRow}
use Rattle.rds_counts.specs.declared.row.TheConstants.{MAX_COUNT}
use Rattle.rds_counts.specs.Place.{Place, place_cmp}
use Rattle.rds_counts.specs.PlaceOrder.{place_exact}
use Rattle.rds_counts.specs.Counted.{Counted, number, place, counts_of, row_cmp, is_row, rows_rise, AreCountRows}
use Rattle.rds_counts.specs.CountedLemmas.{some, number_in, number_past, number-row, get-counts_of, row_total}
use Rattle.rds_names.specs.Conditions.{and_true, and_left, and_right, less_of, equal_of}
use Rattle.rds_counts.specs.Drawn.{greater, drawn_onto, greatest_rows}

-- a row's own number at a place
abbrev at : Place → CountRow → ℕ → ℕ
at q r rest = cond (eq_by_cmp place_cmp q (place r.key r.replica P) && some r.p) r.p (cond (eq_by_cmp place_cmp q (place r.key r.replica N) && some r.n) r.n rest)

at_max : (a b : Bool) (p n rest : ℕ) → (a ≡ true → rest ≡ 0) → (b ≡ true → rest ≡ 0) → cond (a && some p) p (cond (b && some n) n rest) ≡ max (cond (a && some p) p (cond (b && some n) n 0)) rest
at_max true b (suc p) n rest h k = let z = h refl in omega arith
at_max true true zero zero rest h k = omega arith
at_max true true zero (suc n) rest h k = let z = h refl in omega arith
at_max true false zero n rest h k = omega arith
at_max false true p zero rest h k = omega arith
at_max false true p (suc n) rest h k = let z = k refl in omega arith
at_max false false p n rest h k = omega arith

same_place : (q x : Place) → eq_by_cmp place_cmp q x ≡ true → q ≡ x
same_place q x h = place_exact q x (equal_of (place_cmp q x) h)

-- a row's numbers, and those of the rows after it
number-max : (q : Place) (r : CountRow) (rs : List CountRow) → list_all (λ t. is_lt (row_cmp r t)) rs ≡ true → number_in (r ∷ rs) q ≡ max (at q r 0) (number_in rs q)
number-max q r rs first =
    number-row q r rs ∙ at_max _ _ r.p r.n (number_in rs q)
    (λ is. ap (number_in rs) (same_place q (place r.key r.replica P) is) ∙ number_past r P rs first)
    (λ is. ap (number_in rs) (same_place q (place r.key r.replica N) is) ∙ number_past r N rs first)

at_greater : (a b : Bool) (p n u v : ℕ) → (a ≡ true → b ≡ false) → cond (a && some (max p u)) (max p u) (cond (b && some (max n v)) (max n v) 0) ≡ max (cond (a && some p) p (cond (b && some n) n 0)) (cond (a && some u) u (cond (b && some v) v 0))
at_greater a b p n u v h = by_cases a b h
  where
    one : (p u : ℕ) → cond (some (max p u)) (max p u) 0 ≡ max (cond (some p) p 0) (cond (some u) u 0)
    one p u = is (max p u) ∙ ap (λ x. max x u) (sym (is p)) ∙ ap (max (cond (some p) p 0)) (sym (is u))
      where
        is : (m : ℕ) → cond (some m) m 0 ≡ m
        is zero = refl
        is (suc m) = refl

    by_cases : (a b : Bool) → (a ≡ true → b ≡ false) → cond (a && some (max p u)) (max p u) (cond (b && some (max n v)) (max n v) 0) ≡ max (cond (a && some p) p (cond (b && some n) n 0)) (cond (a && some u) u (cond (b && some v) v 0))
    by_cases true true h = absurd (false≢true (sym (h refl)))
    by_cases true false h = one p u
    by_cases false true h = one n v
    by_cases false false h = omega arith

same_row : (x y : CountRow) → row_cmp x y ≡ Equal → (x.key ≡ y.key) × (x.replica ≡ y.replica)
same_row x y h =
    let e = exact_pairs (slice_cmp nat_cmp) nat_cmp exact_bytes exact_unsigned (x.key, x.replica) (y.key, y.replica) h in
    (ap (λ (p : List ℕ × ℕ). p.0) e, ap (λ (p : List ℕ × ℕ). p.1) e)

all_after : (x y : CountRow) → row_cmp x y ≡ Less → (rs : List CountRow) → list_all (λ t. is_lt (row_cmp y t)) rs ≡ true → list_all (λ t. is_lt (row_cmp x t)) rs ≡ true
all_after x y is [] all = refl
all_after x y is (t ∷ rs) all = and_true _ _ (ap is_lt (row_total.trans x y t is (less_of _ (and_left (is_lt (row_cmp y t)) _ all)))) (all_after x y is rs (and_right (is_lt (row_cmp y t)) _ all))

module _ (t : CountRow → Bool) (alike : (x y : CountRow) → t x ≡ true → t y ≡ true → t (greater x y) ≡ true) where
  all-onto : (x : CountRow) (rest : List CountRow → List CountRow) → t x ≡ true → ((ys : List CountRow) → list_all t ys ≡ true → list_all t (rest ys) ≡ true) → (ys : List CountRow) → list_all t ys ≡ true → list_all t (drawn_onto x rest ys) ≡ true
  all-onto x rest tx h [] all = and_true _ _ tx (h [] refl)
  all-onto x rest tx h (y ∷ ys) all =
      elim (row_cmp x y) as (λ o. list_all t (by_order o (x ∷ rest (y ∷ ys)) (greater x y ∷ rest ys) (y ∷ drawn_onto x rest ys)) ≡ true) [
        | Less ↦ and_true _ _ tx (h (y ∷ ys) all)
        | Equal ↦ and_true _ _ (alike x y tx (and_left (t y) _ all)) (h ys (and_right (t y) _ all))
        | Greater ↦ and_true _ _ (and_left (t y) _ all) (all-onto x rest tx h ys (and_right (t y) _ all))
      ]

  all-greatest_rows : (xs ys : List CountRow) → list_all t xs ≡ true → list_all t ys ≡ true → list_all t (greatest_rows xs ys) ≡ true
  all-greatest_rows [] ys a b = b
  all-greatest_rows (x ∷ xs) ys a b = all-onto x (greatest_rows xs) (and_left (t x) _ a) (λ zs h. all-greatest_rows xs zs (and_right (t x) _ a) h) ys b

after_greater : (r x y : CountRow) → is_lt (row_cmp r x) ≡ true → is_lt (row_cmp r y) ≡ true → is_lt (row_cmp r (greater x y)) ≡ true
after_greater r x y a b = a

before : (x y : CountRow) → row_cmp x y ≡ Greater → row_cmp y x ≡ Less
before x y h = row_total.antisymm y x ∙ ap ordering_reverse h

tied_after : (x y : CountRow) → row_cmp x y ≡ Equal → (ys : List CountRow) → list_all (λ t. is_lt (row_cmp y t)) ys ≡ true → list_all (λ t. is_lt (row_cmp x t)) ys ≡ true
tied_after x y is ys first = let e = same_row x y is in subst (λ k. list_all (λ t. is_lt (ordering_then (slice_cmp nat_cmp k t.key) (nat_cmp x.replica t.replica))) ys ≡ true) (sym e.0) (subst (λ r. list_all (λ t. is_lt (ordering_then (slice_cmp nat_cmp y.key t.key) (nat_cmp r t.replica))) ys ≡ true) (sym e.1) first)

rise-onto : (x : CountRow) (xs : List CountRow) (rest : List CountRow → List CountRow) → list_all (λ t. is_lt (row_cmp x t)) xs ≡ true → ((r : CountRow) (ys : List CountRow) → list_all (λ t. is_lt (row_cmp r t)) xs ≡ true → list_all (λ t. is_lt (row_cmp r t)) ys ≡ true → list_all (λ t. is_lt (row_cmp r t)) (rest ys) ≡ true) → ((ys : List CountRow) → rows_rise ys ≡ true → rows_rise (rest ys) ≡ true) → (ys : List CountRow) → rows_rise ys ≡ true → rows_rise (drawn_onto x rest ys) ≡ true
rise-onto x xs rest front all asc [] rise = and_true _ _ (all x [] front refl) (asc [] refl)
rise-onto x xs rest front all asc (y ∷ ys) rise =
    let first = and_left (list_all (λ t. is_lt (row_cmp y t)) ys) _ rise in
    let later = and_right (list_all (λ t. is_lt (row_cmp y t)) ys) _ rise in
    let again = rise-onto x xs rest front all asc ys later in
    elim (row_cmp x y) as (λ o. row_cmp x y ≡ o → rows_rise (by_order o (x ∷ rest (y ∷ ys)) (greater x y ∷ rest ys) (y ∷ drawn_onto x rest ys)) ≡ true) [
      | Less ↦ λ is. and_true _ _ (all x (y ∷ ys) front (and_true _ _ (ap is_lt is) (all_after x y is ys first))) (asc (y ∷ ys) rise)
      | Equal ↦ λ is. and_true _ _ (all x ys front (tied_after x y is ys first)) (asc ys later)
      | Greater ↦ λ is. and_true _ _ (all-onto (λ t. is_lt (row_cmp y t)) (after_greater y) x rest (ap is_lt (before x y is)) (λ zs h. all y zs (all_after y x (before x y is) xs front) h) ys first) again
    ] refl

rise-greatest_rows : (xs ys : List CountRow) → rows_rise xs ≡ true → rows_rise ys ≡ true → rows_rise (greatest_rows xs ys) ≡ true
rise-greatest_rows [] ys a b = b
rise-greatest_rows (x ∷ xs) ys a b = rise-onto x xs (greatest_rows xs) (and_left _ (rows_rise xs) a) (λ r zs. all-greatest_rows (λ t. is_lt (row_cmp r t)) (after_greater r) xs zs) (λ zs h. rise-greatest_rows xs zs (and_right (list_all (λ t. is_lt (row_cmp x t)) xs) _ a) h) ys b

apart : (k : List ℕ) (n : ℕ) → eq_by_cmp place_cmp (place k n P) (place k n N) ≡ false
apart k n = rw (tied_itself nat_list_cmp_total k, tied_itself nat_cmp_total n) refl

at-greater : (q : Place) (x y : CountRow) → row_cmp x y ≡ Equal → at q (greater x y) 0 ≡ max (at q x 0) (at q y 0)
at-greater q x y is =
    let e = same_row x y is in
    let other : List ℕ → ℕ → ℕ = λ k r. cond (eq_by_cmp place_cmp q (place k r P) && some y.p) y.p (cond (eq_by_cmp place_cmp q (place k r N) && some y.n) y.n 0) in
    at_greater (eq_by_cmp place_cmp q (place x.key x.replica P)) (eq_by_cmp place_cmp q (place x.key x.replica N)) x.p x.n y.p y.n
    (λ h. ap (λ z. eq_by_cmp place_cmp z (place x.key x.replica N)) (same_place q (place x.key x.replica P) h) ∙ apart x.key x.replica)
    ∙ ap (max (at q x 0)) (λ i. other (e.0 i) (e.1 i))

number-onto : (q : Place) (x : CountRow) (xs : List CountRow) (rest : List CountRow → List CountRow) → list_all (λ t. is_lt (row_cmp x t)) xs ≡ true → ((r : CountRow) (ys : List CountRow) → list_all (λ t. is_lt (row_cmp r t)) xs ≡ true → list_all (λ t. is_lt (row_cmp r t)) ys ≡ true → list_all (λ t. is_lt (row_cmp r t)) (rest ys) ≡ true) → ((ys : List CountRow) → rows_rise ys ≡ true → number_in (rest ys) q ≡ max (number_in xs q) (number_in ys q)) → (ys : List CountRow) → rows_rise ys ≡ true → number_in (drawn_onto x rest ys) q ≡ max (number_in (x ∷ xs) q) (number_in ys q)
number-onto q x xs rest front all h [] rise =
    let e = number-max q x (rest []) (all x [] front refl) in
    let f = h [] refl in
    let t = number-max q x xs front in
    omega (arith, e, f, t)
number-onto q x xs rest front all h (y ∷ ys) rise =
    let first = and_left (list_all (λ t. is_lt (row_cmp y t)) ys) _ rise in
    let later = and_right (list_all (λ t. is_lt (row_cmp y t)) ys) _ rise in
    let again = number-onto q x xs rest front all h ys later in
    let t = number-max q x xs front in
    let u = number-max q y ys first in
    elim (row_cmp x y) as (λ o. row_cmp x y ≡ o → number_in (by_order o (x ∷ rest (y ∷ ys)) (greater x y ∷ rest ys) (y ∷ drawn_onto x rest ys)) q ≡ max (number_in (x ∷ xs) q) (number_in (y ∷ ys) q)) [
      | Less ↦ λ is.
          let e = number-max q x (rest (y ∷ ys)) (all x (y ∷ ys) front (and_true _ _ (ap is_lt is) (all_after x y is ys first))) in
          let f = h (y ∷ ys) rise in
          omega (arith, e, f, t, u)
      | Equal ↦ λ is.
          let e = number-max q (greater x y) (rest ys) (all x ys front (tied_after x y is ys first)) in
          let f = h ys later in
          let g = at-greater q x y is in
          omega (arith, e, f, g, t, u)
      | Greater ↦ λ is.
          let e = number-max q y (drawn_onto x rest ys) (all-onto (λ r. is_lt (row_cmp y r)) (after_greater y) x rest (ap is_lt (before x y is)) (λ zs k. all y zs (all_after y x (before x y is) xs front) k) ys first) in
          omega (arith, e, again, t, u)
    ] refl

number-greatest_rows : (q : Place) (xs ys : List CountRow) → rows_rise xs ≡ true → rows_rise ys ≡ true → number_in (greatest_rows xs ys) q ≡ max (number_in xs q) (number_in ys q)
number-greatest_rows q [] ys a b = omega arith
number-greatest_rows q (x ∷ xs) ys a b = number-onto q x xs (greatest_rows xs) (and_left _ (rows_rise xs) a) (λ r zs. all-greatest_rows (λ t. is_lt (row_cmp r t)) (after_greater r) xs zs) (λ zs h. number-greatest_rows q xs zs (and_right (list_all (λ t. is_lt (row_cmp x t)) xs) _ a) h) ys b

row_both : (p n u v m i j : ℕ) → ((nat_lt 0 p || nat_lt 0 n) && nat_le p m && nat_le n m && nat_lt i 256) ≡ true → ((nat_lt 0 u || nat_lt 0 v) && nat_le u m && nat_le v m && nat_lt j 256) ≡ true → ((nat_lt 0 (max p u) || nat_lt 0 (max n v)) && nat_le (max p u) m && nat_le (max n v) m && nat_lt i 256) ≡ true
row_both p n u v m i j a b = grind (arith, nat_tests)

pub drawn_are : (xs ys : List CountRow) → AreCountRows xs → AreCountRows ys → AreCountRows (greatest_rows xs ys)
drawn_are xs ys a b = record {
  rise = rise-greatest_rows xs ys a.rise b.rise;
  are = all-greatest_rows is_row (λ x y h k. row_both x.p x.n y.p y.n MAX_COUNT x.replica y.replica h k) xs ys a.are b.are;
}

pub drawn_number : (xs ys : List CountRow) → AreCountRows xs → AreCountRows ys → (a b : Counted) → counts_of xs ≡ a → counts_of ys ≡ b → (q : Place) → number (counts_of (greatest_rows xs ys)) q ≡ max (number a q) (number b q)
drawn_number xs ys are_xs are_ys a b is_a is_b q =
    sym (get-counts_of (greatest_rows xs ys) (counts_of (greatest_rows xs ys)) refl q)
    ∙ number-greatest_rows q xs ys are_xs.rise are_ys.rise
    ∙ ap (λ n. max n (number_in ys q)) (get-counts_of xs a is_a q)
    ∙ ap (max (number a q)) (get-counts_of ys b is_b q)
