-- The sums over a key's rows are those over all replicas.
use Rattle.std.proofs.Common.{◌≡◌, ℕ, zero, suc, ◌+◌, ◌*◌, ◌<◌, ◌≤◌, Bool, true, false, ◌&&◌, ◌||◌, nat_lt, cond, List}
use Rattle.std.proofs.Common.{[], ◌∷◌, length, get_or, take, drop, ◌-◌, refl, sym, ◌∙◌, ap, subst, arith, inl, inr}
use Rattle.std.specs.Prelude.{nat_le}
use mathlib.Core.Bool.{false≢true}
use Rattle.std.specs.List.{list_all, sum_by, range_with_len}
use Rattle.std.specs.List.Sorted.{IsPartitionedBy, IsPartitionPoint}
use Rattle.std.specs.Str.{bytes_eq}
use Rattle.std.specs.Ordering.{nat_cmp, ordering_then, is_lt, is_eq}
use Rattle.std.specs.Cmp.{nat_cmp_total, tied_itself}
use Rattle.std.specs.Cmp.Lexicographic.{slice_cmp, nat_list_cmp_total}
use Rattle.std.specs.declared.cmp.Ordering.{Ordering}
use Rattle.std.specs.declared.cmp.Ordering.TheVariants.{Less, Equal, Greater}
use Rattle.std.proofs.lemmas.Bool.{cases_lt}
use Rattle.std.proofs.lemmas.Bool.Decides.{nat_tests}
use Rattle.std.proofs.lemmas.List.{take_all, length-drop}
use Rattle.std.proofs.lemmas.List.Sums.{sum_by-cons, sum_by-le}
use Rattle.std.proofs.lemmas.List.FromFn.{length-range_with_len}
use Rattle.std.proofs.lemmas.Map.Text.{is_eq-slice_cmp}
use Rattle.std.proofs.lemmas.Map.Lookups.{exact_unsigned, exact_bytes}
use Rattle.rds_counts.specs.declared.row.Which.{Which}
use Rattle.rds_counts.specs.declared.row.Which.TheVariants.{P, N}
use Rattle.rds_counts.specs.declared.row.CountRow.{CountRow}
use Rattle.rds_counts.specs.declared.row.TheConstants.{MAX_COUNT}
use Rattle.rds_counts.specs.Counted.{number_in_pair, place, counts_of, pair_of, row_cmp, is_row, rows_rise}
use Rattle.rds_counts.specs.Counted.{AreCountRows}
use Rattle.rds_counts.specs.CountedLemmas.{number_in, number_past, pair_number, get-counts_of}
use Rattle.rds_names.specs.Conditions.{and_left, and_right, less_of, equal_of}
use Rattle.rds_counts.specs.Value.{total, total_by, first_total}
use Rattle.rds_counts.proofs.Found.{rises_at}

-- the sum over all rows of a key
abbrev pub row_total : Which → List ℕ → List CountRow → ℕ
row_total w key [] = 0
row_total w key (r ∷ rows) = cond (bytes_eq r.key key) (number_in_pair w (r.p, r.n)) 0 + row_total w key rows

key_is : (xs ys : List ℕ) → bytes_eq xs ys ≡ true → xs ≡ ys
key_is xs ys h = exact_bytes xs ys (equal_of _ (is_eq-slice_cmp xs ys ∙ h))

-- a sum changes by the one term that changes
module _ (f g : ℕ → ℕ) (j x : ℕ) (one : (i : ℕ) → g i ≡ cond (is_eq (nat_cmp j i)) x (f i)) where
  at_other : (i : ℕ) → ¬ (j ≡ i) → g i ≡ f i
  at_other i other = by (is_eq (nat_cmp j i)) refl
    where
      by : (b : Bool) → is_eq (nat_cmp j i) ≡ b → g i ≡ f i
      by true is = absurd (other (exact_unsigned j i (equal_of _ is)))
      by false is = one i ∙ ap (λ b. cond b x (f i)) is

  sum_after : (n a : ℕ) → j < a → sum_by g (range_with_len a n) ≡ sum_by f (range_with_len a n)
  sum_after zero a lt = refl
  sum_after (suc n) a lt =
      let again = sum_after n (a + 1) (omega arith) in
      let here = at_other a (λ e. omega arith) in
      let c = sum_by-cons g a (range_with_len (a + 1) n) in
      let d = sum_by-cons f a (range_with_len (a + 1) n) in
      omega (arith, again, here, c, d)

  sum_one : f j ≡ 0 → (n a : ℕ) → a ≤ j → j < a + n → sum_by g (range_with_len a n) ≡ x + sum_by f (range_with_len a n)
  sum_one none zero a low high = absurd (omega arith)
  sum_one none (suc n) a low high =
      let c = sum_by-cons g a (range_with_len (a + 1) n) in
      let d = sum_by-cons f a (range_with_len (a + 1) n) in
      elim (cases_lt a j) [
        | inl less ↦
            let again = sum_one none n (a + 1) (omega arith) (omega arith) in
            let here = at_other a (λ e. omega arith) in
            omega (arith, again, here, c, d)
        | inr from ↦
            let same : j ≡ a = omega arith in
            let again = sum_after n (a + 1) (omega arith) in
            let here : g a ≡ x = ap g (sym same) ∙ one j ∙ ap (λ o. cond (is_eq o) x (f j)) (tied_itself nat_cmp_total j) in
            let gone : f a ≡ 0 = ap f (sym same) ∙ none in
            omega (arith, again, here, gone, c, d)
      ]

sum_zeros : (n a : ℕ) → sum_by (λ _. 0) (range_with_len a n) ≡ 0
sum_zeros zero a = refl
sum_zeros (suc n) a =
    let again = sum_zeros n (a + 1) in
    let c = sum_by-cons (λ _. 0) a (range_with_len (a + 1) n) in
    omega (arith, again, c)

number_in_pair-cond : (w : Which) (b : Bool) (x y : ℕ × ℕ) → number_in_pair w (cond b x y) ≡ cond b (number_in_pair w x) (number_in_pair w y)
number_in_pair-cond w true x y = refl
number_in_pair-cond w false x y = refl

pub number_in_pair-none : (w : Which) → number_in_pair w (0, 0) ≡ 0
number_in_pair-none P = refl
number_in_pair-none N = refl

is_eq-then : (x y : Ordering) → is_eq (ordering_then x y) ≡ (is_eq x && is_eq y)
is_eq-then Less y = refl
is_eq-then Equal y = refl
is_eq-then Greater y = refl

row_within : (p n i m : ℕ) → ((nat_lt 0 p || nat_lt 0 n) && nat_le p m && nat_le n m && nat_lt i 256) ≡ true → (p ≤ m) × (n ≤ m) × (i < 256)
row_within p n i m is = (grind (arith, nat_tests), grind (arith, nat_tests), grind (arith, nat_tests))

-- a row's number at a replica, or that of later rows
pair_first : (w : Which) (key : List ℕ) (r : CountRow) (rows : List CountRow) (i : ℕ) → number_in_pair w (pair_of (r ∷ rows) key i) ≡ cond (bytes_eq r.key key && is_eq (nat_cmp r.replica i)) (number_in_pair w (r.p, r.n)) (number_in_pair w (pair_of rows key i))
pair_first w key r rows i =
    number_in_pair-cond w (is_eq (ordering_then (slice_cmp nat_cmp r.key key) (nat_cmp r.replica i))) (r.p, r.n) (pair_of rows key i)
    ∙ ap (λ b. cond b (number_in_pair w (r.p, r.n)) (number_in_pair w (pair_of rows key i)))
    (is_eq-then (slice_cmp nat_cmp r.key key) (nat_cmp r.replica i) ∙ ap (λ b. b && is_eq (nat_cmp r.replica i)) (is_eq-slice_cmp r.key key))

sum_first : (w : Which) (key : List ℕ) (r : CountRow) (rows : List CountRow) → list_all (λ t. is_lt (row_cmp r t)) rows ≡ true → rows_rise rows ≡ true → r.replica < 256 → (b : Bool) → bytes_eq r.key key ≡ b → sum_by (λ i. number_in_pair w (pair_of (r ∷ rows) key i)) (range_with_len 0 256) ≡ cond b (number_in_pair w (r.p, r.n)) 0 + sum_by (λ i. number_in_pair w (pair_of rows key i)) (range_with_len 0 256)
sum_first w key r rows first rise within true is =
    sum_one (λ i. number_in_pair w (pair_of rows key i)) (λ i. number_in_pair w (pair_of (r ∷ rows) key i)) r.replica (number_in_pair w (r.p, r.n))
    (λ i. pair_first w key r rows i ∙ ap (λ b. cond (b && is_eq (nat_cmp r.replica i)) (number_in_pair w (r.p, r.n)) (number_in_pair w (pair_of rows key i))) is)
    (pair_number rows rise key r.replica w ∙ ap (λ k. number_in rows (place k r.replica w)) (sym (key_is r.key key is)) ∙ number_past r w rows first)
    256 0 (omega arith) (omega arith)
sum_first w key r rows first rise within false is =
    ap (λ (f : ℕ → ℕ). sum_by f (range_with_len 0 256)) (λ k i. (pair_first w key r rows i ∙ ap (λ b. cond (b && is_eq (nat_cmp r.replica i)) (number_in_pair w (r.p, r.n)) (number_in_pair w (pair_of rows key i))) is) k)
    ∙ omega arith

sum_rows : (w : Which) (key : List ℕ) (rows : List CountRow) → rows_rise rows ≡ true → list_all is_row rows ≡ true → sum_by (λ i. number_in_pair w (pair_of rows key i)) (range_with_len 0 256) ≡ row_total w key rows
sum_rows w key [] rise are = ap (λ n. sum_by (λ _. n) (range_with_len 0 256)) (number_in_pair-none w) ∙ sum_zeros 256 0
sum_rows w key (r ∷ rows) rise are =
    sum_first w key r rows (and_left (list_all (λ t. is_lt (row_cmp r t)) rows) _ rise) (and_right (list_all (λ t. is_lt (row_cmp r t)) rows) _ rise) (row_within r.p r.n r.replica MAX_COUNT (and_left (is_row r) _ are)).2 _ refl
    ∙ ap (λ n. cond (bytes_eq r.key key) (number_in_pair w (r.p, r.n)) 0 + n) (sum_rows w key rows (and_right (list_all (λ t. is_lt (row_cmp r t)) rows) _ rise) (and_right (is_row r) _ are))

-- what comes after a greater key has a greater key
none_after : (w : Which) (key : List ℕ) (r : CountRow) (rows : List CountRow) → list_all (λ t. is_lt (row_cmp r t)) rows ≡ true → slice_cmp nat_cmp r.key key ≡ Greater → row_total w key rows ≡ 0
none_after w key r [] first over = refl
none_after w key r (s ∷ rows) first over = by (bytes_eq s.key key) refl ∙ none_after w key r rows (and_right (is_lt (row_cmp r s)) _ first) over
  where
    by : (b : Bool) → bytes_eq s.key key ≡ b → cond (bytes_eq s.key key) (number_in_pair w (s.p, s.n)) 0 + row_total w key rows ≡ row_total w key rows
    by true is =
        let same : slice_cmp nat_cmp r.key s.key ≡ Greater = ap (slice_cmp nat_cmp r.key) (key_is s.key key is) ∙ over in
        let less : row_cmp r s ≡ Less = less_of (row_cmp r s) (and_left (is_lt (row_cmp r s)) _ first) in
        let greater : row_cmp r s ≡ Greater = ap (λ o. ordering_then o (nat_cmp r.replica s.replica)) same in
        absurd (cc)
    by false is = ap (λ b. cond b (number_in_pair w (s.p, s.n)) 0 + row_total w key rows) is ∙ omega arith

greater_of : (o : Ordering) → is_lt o ≡ false → is_eq o ≡ false → o ≡ Greater
greater_of Less h k = absurd (cc)
greater_of Equal h k = absurd (cc)
greater_of Greater h k = refl

not_equal : (o : Ordering) → is_lt o ≡ true → is_eq o ≡ false
not_equal Less h = refl
not_equal Equal h = absurd (false≢true h)
not_equal Greater h = refl

-- the first rows of the key, once all lesser keys are left out
first_total-drop : (w : Which) (key : List ℕ) (e : CountRow) (rows : List CountRow) → rows_rise rows ≡ true → (from : ℕ) → from ≤ length rows → ((k : ℕ) → k < from → is_lt (slice_cmp nat_cmp (get_or rows k e).key key) ≡ true) → ((k : ℕ) → from ≤ k → k < length rows → is_lt (slice_cmp nat_cmp (get_or rows k e).key key) ≡ false) → first_total w key (drop from rows) ≡ row_total w key rows
first_total-drop w key e [] rise zero le below over = refl
first_total-drop w key e [] rise (suc from) le below over = absurd (omega arith)
first_total-drop w key e (r ∷ rows) rise (suc from) le below over =
    let apart : bytes_eq r.key key ≡ false = sym (is_eq-slice_cmp r.key key) ∙ not_equal _ (below 0 (omega arith)) in
    let again = first_total-drop w key e rows (and_right (list_all (λ t. is_lt (row_cmp r t)) rows) _ rise) from (omega arith) (λ k lt. below (suc k) (omega arith)) (λ k ge lt. over (suc k) (omega arith) (omega arith)) in
    again ∙ sym (ap (λ b. cond b (number_in_pair w (r.p, r.n)) 0 + row_total w key rows) apart ∙ omega arith)
first_total-drop w key e (r ∷ rows) rise zero le below over =
    by (bytes_eq r.key key) refl (first_total-drop w key e rows (and_right (list_all (λ t. is_lt (row_cmp r t)) rows) _ rise) 0 (omega arith) (λ k lt. absurd (omega arith)) (λ k ge lt. over (suc k) (omega arith) (omega arith)))
  where
    by : (b : Bool) → bytes_eq r.key key ≡ b → first_total w key rows ≡ row_total w key rows → cond (bytes_eq r.key key) (number_in_pair w (r.p, r.n) + first_total w key rows) 0 ≡ cond (bytes_eq r.key key) (number_in_pair w (r.p, r.n)) 0 + row_total w key rows
    by true is again =
        ap (λ b. cond b (number_in_pair w (r.p, r.n) + first_total w key rows) 0) is
        ∙ ap (λ n. number_in_pair w (r.p, r.n) + n) again
        ∙ sym (ap (λ b. cond b (number_in_pair w (r.p, r.n)) 0 + row_total w key rows) is)
    by false is again =
        let over_key : slice_cmp nat_cmp r.key key ≡ Greater = greater_of _ (over 0 (omega arith) (omega arith)) (is_eq-slice_cmp r.key key ∙ is) in
        let none = none_after w key r rows (and_left (list_all (λ t. is_lt (row_cmp r t)) rows) _ rise) over_key in
        ap (λ b. cond b (number_in_pair w (r.p, r.n) + first_total w key rows) 0) is
        ∙ sym (ap (λ b. cond b (number_in_pair w (r.p, r.n)) 0 + row_total w key rows) is ∙ ap (λ n. 0 + n) none ∙ omega arith)

before_key : (a b key : List ℕ) (o : Ordering) → ordering_then (slice_cmp nat_cmp a b) o ≡ Less → is_lt (slice_cmp nat_cmp b key) ≡ true → is_lt (slice_cmp nat_cmp a key) ≡ true
before_key a b key o less lt = by (slice_cmp nat_cmp a b) refl
  where
    by : (x : Ordering) → slice_cmp nat_cmp a b ≡ x → is_lt (slice_cmp nat_cmp a key) ≡ true
    by Less is = ap is_lt (nat_list_cmp_total.trans a b key is (less_of _ lt))
    by Equal is = ap (λ k. is_lt (slice_cmp nat_cmp k key)) (exact_bytes a b is) ∙ lt
    by Greater is = let h : ordering_then (slice_cmp nat_cmp a b) o ≡ Greater = ap (λ x. ordering_then x o) is in absurd (cc)

-- lesser keys come first
pub keys_part : (key : List ℕ) (rows : List CountRow) → rows_rise rows ≡ true → IsPartitionedBy (λ (r : CountRow). is_lt (slice_cmp nat_cmp r.key key)) rows
keys_part key rows rise i j e le within lt = elim (cases_lt i j) [
  | inl less ↦ before_key (get_or rows i e).key (get_or rows j e).key key _ (rises_at rows rise e i j less within) lt
  | inr from ↦ let same : i ≡ j = omega arith in ap (λ k. is_lt (slice_cmp nat_cmp (get_or rows k e).key key)) same ∙ lt
]

chosen : (w : Which) (b : Bool) (x y : ℕ × ℕ) → x.0 ≤ MAX_COUNT → x.1 ≤ MAX_COUNT → number_in_pair w y ≤ MAX_COUNT → number_in_pair w (cond b x y) ≤ MAX_COUNT
chosen P true x y p n h = p
chosen N true x y p n h = n
chosen w false x y p n h = h

pair_within : (w : Which) (key : List ℕ) (replica : ℕ) (rows : List CountRow) → list_all is_row rows ≡ true → number_in_pair w (pair_of rows key replica) ≤ MAX_COUNT
pair_within P key replica [] are = omega arith
pair_within N key replica [] are = omega arith
pair_within w key replica (r ∷ rows) are =
    let own = row_within r.p r.n r.replica MAX_COUNT (and_left (is_row r) _ are) in
    chosen w (is_eq (ordering_then (slice_cmp nat_cmp r.key key) (nat_cmp r.replica replica))) (r.p, r.n) (pair_of rows key replica) own.0 own.1 (pair_within w key replica rows (and_right (is_row r) _ are))

-- the sum of a key's numbers stays small
sum_within : (w : Which) (key : List ℕ) (rows : List CountRow) → list_all is_row rows ≡ true → sum_by (λ i. number_in_pair w (pair_of rows key i)) (range_with_len 0 256) ≤ 256 * MAX_COUNT
sum_within w key rows are =
    subst (λ n. sum_by (λ i. number_in_pair w (pair_of rows key i)) (range_with_len 0 256) ≤ n * MAX_COUNT) (length-range_with_len 0 256)
    (sum_by-le (λ i. number_in_pair w (pair_of rows key i)) MAX_COUNT (range_with_len 0 256) (λ k d lt. pair_within w key _ rows are))

total_sum : (w : Which) (key : List ℕ) (rows : List CountRow) → rows_rise rows ≡ true → total (counts_of rows) key w ≡ sum_by (λ i. number_in_pair w (pair_of rows key i)) (range_with_len 0 256)
unfolding total_by
total_sum w key rows rise = ap (λ (f : ℕ → ℕ). sum_by f (range_with_len 0 256)) (λ k i. sym (pair_number rows rise key i w ∙ get-counts_of rows (counts_of rows) refl (place key i w)) k)

-- the sum over a key's first rows is that over all replicas
pub first_total-total : (w : Which) (key : List ℕ) (rows : List CountRow) → AreCountRows rows → (from : ℕ) → from ≤ length rows → IsPartitionPoint (λ (r : CountRow). is_lt (slice_cmp nat_cmp r.key key) ≡ true) (λ r. is_lt (slice_cmp nat_cmp r.key key) ≡ false) rows from → first_total w key (take (length rows - from) (drop from rows)) ≡ total (counts_of rows) key w
first_total-total w key rows are from le part =
    let e : CountRow = record { key = key; replica = 0; p = 0; n = 0 } in
    let all : length (drop from rows) ≤ length rows - from = omega (arith, length-drop from rows) in
    ap (first_total w key) (take_all (length rows - from) (drop from rows) all)
    ∙ first_total-drop w key e rows are.rise from le (λ k lt. part.0 k e (omega arith) lt) (λ k ge lt. part.1 k e ge lt)
    ∙ sym (sum_rows w key rows are.rise are.are)
    ∙ sym (total_sum w key rows are.rise)

pub total_within : (w : Which) (key : List ℕ) (rows : List CountRow) → AreCountRows rows → total (counts_of rows) key w ≤ 256 * MAX_COUNT
total_within w key rows are = subst (λ n. n ≤ 256 * MAX_COUNT) (sym (total_sum w key rows are.rise)) (sum_within w key rows are.are)
