-- What rows say at a place.
use Rattle.std.proofs.Common.{◌≡◌, ℕ, zero, suc, Bool, true, false, ◌&&◌, cond, List, [], ◌∷◌, ◌++◌, Option, Some, refl}
use Rattle.std.proofs.Common.{sym, ◌∙◌, ap, subst, arith}
use mathlib.Core.Bool.{false≢true}
use Rattle.std.specs.List.{list_all}
use Rattle.std.specs.Cmp.{IsTotalOrder, nat_cmp_total, tied_itself}
use Rattle.std.specs.Cmp.Lexicographic.{slice_cmp, nat_list_cmp_total}
use Rattle.std.specs.Ordering.{nat_cmp, ordering_then, is_lt, is_eq, eq_by_cmp}
use Rattle.std.specs.declared.cmp.Ordering.{Ordering}
use Rattle.std.specs.declared.cmp.Ordering.TheVariants.{Less, Equal, Greater}
use Rattle.std.specs.FinMap as map
use Rattle.std.proofs.lemmas.Cmp.{on_total, then_total}
use Rattle.rds_names.specs.Conditions.{and_true, and_left, and_right, less_of, equal_of}
use Rattle.rds_counts.specs.declared.row.Which.{Which}
use Rattle.rds_counts.specs.declared.row.Which.TheVariants.{P, N}
use Rattle.rds_counts.specs.declared.row.CountRow.{CountRow}
use Rattle.rds_counts.specs.Place.{Place, place_cmp, index_of}
use Rattle.rds_counts.specs.PlaceOrder.{place_total, place_exact}
use Rattle.rds_counts.specs.Counted.{Above, Counted, number, number_from, place, entry_above, components, counts_of, row_cmp}
use Rattle.rds_counts.specs.Counted.{is_row, rows_rise, row_before_next, rows_fit, pair_of, number_in_pair, AreCountRows}

pub row_total : IsTotalOrder row_cmp
row_total = then_total (on_total (λ (r : CountRow). r.key) nat_list_cmp_total) (on_total (λ (r : CountRow). r.replica) nat_cmp_total)

before_trans : (r s : CountRow) → row_cmp r s ≡ Less → (rows : List CountRow) → list_all (λ t. is_lt (row_cmp s t)) rows ≡ true → list_all (λ t. is_lt (row_cmp r t)) rows ≡ true
before_trans r s is [] all = refl
before_trans r s is (t ∷ rows) all = and_true _ _ (ap is_lt (row_total.trans r s t is (less_of _ (and_left (is_lt (row_cmp s t)) _ all)))) (before_trans r s is rows (and_right (is_lt (row_cmp s t)) _ all))

before_all : (r : CountRow) (rows : List CountRow) → row_before_next r rows ≡ true → rows_rise rows ≡ true → list_all (λ t. is_lt (row_cmp r t)) rows ≡ true
before_all r [] next rise = refl
before_all r (s ∷ rows) next rise = and_true _ _ next (before_trans r s (less_of _ next) rows (and_left _ (rows_rise rows) rise))

pub all_before : (r : CountRow) (rows : List CountRow) → list_all (λ t. is_lt (row_cmp r t)) rows ≡ true → row_before_next r rows ≡ true
all_before r [] all = refl
all_before r (s ∷ rows) all = and_left _ (list_all (λ t. is_lt (row_cmp r t)) rows) all

pub fits_rows : (rows : List CountRow) → rows_fit rows ≡ true → AreCountRows rows
fits_rows [] fit = record { rise = refl; are = refl }
fits_rows (r ∷ rows) fit =
    let front = and_left (is_row r && row_before_next r rows) _ fit in
    let later = fits_rows rows (and_right (is_row r && row_before_next r rows) _ fit) in
    record {
      rise = and_true _ _ (before_all r rows (and_right (is_row r) _ front) later.rise) later.rise;
      are = and_true _ _ (and_left (is_row r) _ front) later.are;
    }

pub rows_fit_of : (rows : List CountRow) → AreCountRows rows → rows_fit rows ≡ true
rows_fit_of [] are = refl
rows_fit_of (r ∷ rows) are =
    and_true _ _ (and_true _ _ (and_left (is_row r) _ are.are) (all_before r rows (and_left _ (rows_rise rows) are.rise)))
    (rows_fit_of rows (record { rise = and_right (list_all (λ t. is_lt (row_cmp r t)) rows) _ are.rise; are = and_right (is_row r) _ are.are }))

abbrev pub some : ℕ → Bool
some zero = false
some (suc n) = true

number-cond : (b : Bool) (n : ℕ) (o : Option Above) → number_from (cond b (Some (record { before = n })) o) ≡ cond b (suc n) (number_from o)
number-cond true n o = omega arith
number-cond false n o = refl

cond_zero : (b : Bool) (m : ℕ) → m ≡ cond (b && some 0) 0 m
cond_zero true m = refl
cond_zero false m = refl

cond_suc : (b : Bool) (n m : ℕ) → cond b (suc n) m ≡ cond (b && some (suc n)) (suc n) m
cond_suc true n m = refl
cond_suc false n m = refl

-- the number that an entry adds
pub number-above : (q x : Place) (n : ℕ) (es : List (Place × Above)) → number_from (map.find place_cmp q (entry_above x n ++ es)) ≡ cond (eq_by_cmp place_cmp q x && some n) n (number_from (map.find place_cmp q es))
number-above q x zero es = cond_zero (eq_by_cmp place_cmp q x) _
number-above q x (suc n) es = number-cond (eq_by_cmp place_cmp q x) n _ ∙ cond_suc (eq_by_cmp place_cmp q x) n _

pub then_less : (x y z : Ordering) → ordering_then x y ≡ Less → ordering_then x (ordering_then y z) ≡ Less
then_less Less y z h = refl
then_less Equal Less z h = refl
then_less Equal Equal z h = absurd (cc)
then_less Equal Greater z h = absurd (cc)
then_less Greater y z h = absurd (cc)

-- no later row has the key and the replica
pub number_past : (r : CountRow) (w : Which) (rows : List CountRow) → list_all (λ t. is_lt (row_cmp r t)) rows ≡ true → number_from (map.find place_cmp (place r.key r.replica w) (components rows)) ≡ 0
number_past r w [] all = refl
number_past r w (s ∷ rows) all =
    let is : row_cmp r s ≡ Less = less_of _ (and_left (is_lt (row_cmp r s)) _ all) in
    let apart : (v : Which) → eq_by_cmp place_cmp (place r.key r.replica w) (place s.key s.replica v) ≡ false = λ v. ap is_eq (then_less (slice_cmp nat_cmp r.key s.key) (nat_cmp r.replica s.replica) _ is) in
    number-above (place r.key r.replica w) (place s.key s.replica P) s.p (entry_above (place s.key s.replica N) s.n ++ components rows)
    ∙ ap (λ b. cond (b && some s.p) s.p (number_from (map.find place_cmp (place r.key r.replica w) (entry_above (place s.key s.replica N) s.n ++ components rows)))) (apart P)
    ∙ number-above (place r.key r.replica w) (place s.key s.replica N) s.n (components rows)
    ∙ ap (λ b. cond (b && some s.n) s.n (number_from (map.find place_cmp (place r.key r.replica w) (components rows)))) (apart N)
    ∙ number_past r w rows (and_right (is_lt (row_cmp r s)) _ all)

abbrev pub number_in : List CountRow → Place → ℕ
number_in rows q = number_from (map.find place_cmp q (components rows))

pub number-row : (q : Place) (r : CountRow) (rows : List CountRow) → number_in (r ∷ rows) q ≡ cond (eq_by_cmp place_cmp q (place r.key r.replica P) && some r.p) r.p (cond (eq_by_cmp place_cmp q (place r.key r.replica N) && some r.n) r.n (number_in rows q))
number-row q r rows =
    number-above q (place r.key r.replica P) r.p (entry_above (place r.key r.replica N) r.n ++ components rows)
    ∙ ap (cond (eq_by_cmp place_cmp q (place r.key r.replica P) && some r.p) r.p) (number-above q (place r.key r.replica N) r.n (components rows))

own_p : (a b : Bool) (p n rest : ℕ) → a ≡ true → b ≡ false → rest ≡ 0 → cond (a && some p) p (cond (b && some n) n rest) ≡ p
own_p true true p n rest x y z = absurd (false≢true (sym y))
own_p true false zero n rest x y z = z
own_p true false (suc p) n rest x y z = refl
own_p false b p n rest x y z = absurd (false≢true x)

own_n : (a b : Bool) (p n rest : ℕ) → a ≡ false → b ≡ true → rest ≡ 0 → cond (a && some p) p (cond (b && some n) n rest) ≡ n
own_n true b p n rest x y z = absurd (false≢true (sym x))
own_n false true p zero rest x y z = z
own_n false true p (suc n) rest x y z = refl
own_n false false p n rest x y z = absurd (false≢true y)

-- a row's own numbers
pub number-own : (r : CountRow) (rows : List CountRow) (w : Which) → list_all (λ t. is_lt (row_cmp r t)) rows ≡ true → number_in (r ∷ rows) (place r.key r.replica w) ≡ number_in_pair w (r.p, r.n)
number-own r rows P all =
    number-row (place r.key r.replica P) r rows
    ∙ own_p _ (eq_by_cmp place_cmp (place r.key r.replica P) (place r.key r.replica N)) r.p r.n _ (ap is_eq (tied_itself place_total (place r.key r.replica P))) (apart r.key r.replica) (number_past r P rows all)
  where
    apart : (k : List ℕ) (n : ℕ) → eq_by_cmp place_cmp (place k n P) (place k n N) ≡ false
    apart k n = rw (tied_itself nat_list_cmp_total k, tied_itself nat_cmp_total n) refl
number-own r rows N all =
    number-row (place r.key r.replica N) r rows
    ∙ own_n (eq_by_cmp place_cmp (place r.key r.replica N) (place r.key r.replica P)) _ r.p r.n _ (apart r.key r.replica) (ap is_eq (tied_itself place_total (place r.key r.replica N))) (number_past r N rows all)
  where
    apart : (k : List ℕ) (n : ℕ) → eq_by_cmp place_cmp (place k n N) (place k n P) ≡ false
    apart k n = rw (tied_itself nat_list_cmp_total k, tied_itself nat_cmp_total n) refl

pub both_other : (a b x y : Bool) (p n rest : ℕ) → a ≡ false → b ≡ false → cond (a && x) p (cond (b && y) n rest) ≡ rest
both_other true b x y p n rest h k = absurd (false≢true (sym h))
both_other false true x y p n rest h k = absurd (false≢true (sym k))
both_other false false x y p n rest h k = refl

-- what a look through the rows finds is the number
pub pair_number : (rows : List CountRow) → rows_rise rows ≡ true → (key : List ℕ) (replica : ℕ) (w : Which) → number_in_pair w (pair_of rows key replica) ≡ number_in rows (place key replica w)
pair_number [] rise key replica P = refl
pair_number [] rise key replica N = refl
pair_number (r ∷ rows) rise key replica w =
    let again = pair_number rows (and_right (list_all (λ t. is_lt (row_cmp r t)) rows) _ rise) key replica w in
    let all = and_left (list_all (λ t. is_lt (row_cmp r t)) rows) _ rise in
    elim (is_eq (ordering_then (slice_cmp nat_cmp r.key key) (nat_cmp r.replica replica))) as (λ b. is_eq (ordering_then (slice_cmp nat_cmp r.key key) (nat_cmp r.replica replica)) ≡ b → number_in_pair w (cond b (r.p, r.n) (pair_of rows key replica)) ≡ number_in (r ∷ rows) (place key replica w)) [
      | true ↦ λ is.
          let same : place r.key r.replica w ≡ place key replica w = place_exact _ _ (tie (slice_cmp nat_cmp r.key key) (nat_cmp r.replica replica) _ (equal_of _ is) (tied_itself nat_cmp_total (index_of w))) in
          subst (λ q. number_in_pair w (r.p, r.n) ≡ number_in (r ∷ rows) q) same (sym (number-own r rows w all))
      | false ↦ λ isnt. again ∙ sym (number-row (place key replica w) r rows ∙ both_other _ _ _ _ r.p r.n _ (other isnt P) (other isnt N))
    ] refl
  where
    tie : (x y z : Ordering) → ordering_then x y ≡ Equal → z ≡ Equal → ordering_then x (ordering_then y z) ≡ Equal
    tie Less y z h k = absurd (cc)
    tie Equal Less z h k = absurd (cc)
    tie Equal Equal z h k = k
    tie Equal Greater z h k = absurd (cc)
    tie Greater y z h k = absurd (cc)

    other : is_eq (ordering_then (slice_cmp nat_cmp r.key key) (nat_cmp r.replica replica)) ≡ false → (v : Which) → eq_by_cmp place_cmp (place key replica w) (place r.key r.replica v) ≡ false
    other isnt v =
        elim (eq_by_cmp place_cmp (place key replica w) (place r.key r.replica v)) as (λ b. eq_by_cmp place_cmp (place key replica w) (place r.key r.replica v) ≡ b → b ≡ false) [
          | true ↦ λ is.
              let same : place key replica w ≡ place r.key r.replica v = place_exact _ _ (equal_of _ is) in
              let k : r.key ≡ key = sym (ap (λ (q : Place). q.key) same) in
              let n : r.replica ≡ replica = sym (ap (λ (q : Place). q.replica) same) in
              sym (sym isnt ∙ rw (k, n) (rw (tied_itself nat_list_cmp_total key, tied_itself nat_cmp_total replica) refl))
          | false ↦ λ _. refl
        ] refl

-- the number that rows say
pub get-counts_of : (rows : List CountRow) (m : Counted) → counts_of rows ≡ m → (q : Place) → number_in rows q ≡ number m q
get-counts_of rows m is q = ap number_from (sym (map.get-from_entries place_total (components rows) q)) ∙ ap (λ x. number x q) is
