-- The marks of counters' rows of which some change.
use Rattle.std.proofs.Common.{◌≡◌, ℕ, Bool, true, false, not, ◌||◌, cond, List, [], ◌∷◌, refl, sym, ◌∙◌, ap, arith}
use Rattle.std.proofs.Common.{length, get_or, zero, suc, ◌<◌, max, Ok, Err, inl, inr}
use Rattle.std.proofs.lemmas.Bool.{cases_lt}
use Rattle.std.specs.Prelude.{filter}
use Rattle.std.specs.List.{list_all, list_any}
use Rattle.std.specs.Cmp.{nat_cmp_total, tied_itself}
use Rattle.std.specs.Cmp.Lexicographic.{slice_cmp, nat_list_cmp_total}
use Rattle.std.specs.Ordering.{is_eq, is_lt, nat_cmp, ordering_reverse, ordering_then, eq_by_cmp}
use Rattle.std.specs.declared.cmp.Ordering.TheVariants.{Less, Equal, Greater}
use Rattle.rds_names.specs.Conditions.{and_true, and_left, and_right, equal_of, less_of}
use Rattle.rds_counts.specs.declared.row.CountRow.{CountRow}
use Rattle.rds_counts.specs.declared.row.Which.{Which}
use Rattle.rds_counts.specs.declared.row.Which.TheVariants.{P, N}
use Rattle.rds_counts.specs.Counted.{AreCountRows, Counted, counts_of, is_row, number, number_in_pair, pair_of, place, row_cmp, rows_rise}
use Rattle.rds_counts.specs.CountedLemmas.{get-counts_of, pair_number, row_total}
use Rattle.rds_counts.specs.Place.{Place, place_cmp}
use Rattle.rds_counts.specs.PlaceOrder.{place_exact}
use Rattle.rds_counts.specs.RowsOf.{count_rows}
use Rattle.rds_counts.specs.RowsOfLemmas.{count_rows-counts_of}
use Rattle.rds_counts.specs.Search.{spot_cmp, IsSpot}
use Rattle.rds_counts.proofs.Found.{after_at, parted, same_spot}
use Rattle.rds_counts.proofs.SameCounts.{same_counts}
use Rattle.rds_state.specs.declared.mark.Mark.{Mark}
use Rattle.rds_state.specs.Mark.{count_mark, no_mark, plus}
use Rattle.rds_tree.specs.Marks.{mark_in, marks_in}
use Rattle.rds_tree.proofs.MarkTotals.{assoc, total, total-cons, turn, whole-total}

abbrev pub count_total : List CountRow → Mark
count_total rows = total count_mark rows

-- whether the row is that of the key and the replica
abbrev is_at : List ℕ → ℕ → CountRow → Bool
is_at key replica r = is_eq (spot_cmp key replica r)

-- all rows but that one
abbrev cut : List ℕ → ℕ → List CountRow → List CountRow
cut key replica rows = filter (λ r. not (is_at key replica r)) rows

not_both : {X : Type 0} (b : Bool) → b ≡ true → b ≡ false → X
not_both true p n = absurd (cc)
not_both false p n = absurd (cc)

-- ---- the row of a key and a replica

-- a row that stands elsewhere, seen from one that stands there
moves_on : (key : List ℕ) (replica : ℕ) (r : CountRow) → is_at key replica r ≡ true → (s : CountRow) → is_lt (row_cmp r s) ≡ true → is_at key replica s ≡ false
moves_on key replica r at s before =
    let is = same_spot key replica r (equal_of _ at) in
    let greater : row_cmp s r ≡ Greater = row_total.antisymm s r ∙ ap ordering_reverse (less_of (row_cmp r s) before) in
    ap is_eq (sym (ap (λ k. ordering_then (slice_cmp nat_cmp s.key k) (nat_cmp s.replica r.replica)) is.0 ∙ ap (λ i. ordering_then (slice_cmp nat_cmp s.key key) (nat_cmp s.replica i)) is.1) ∙ greater)

none_later : (key : List ℕ) (replica : ℕ) (r : CountRow) → is_at key replica r ≡ true → (rows : List CountRow) → list_all (λ s. is_lt (row_cmp r s)) rows ≡ true → mark_in key replica rows ≡ no_mark
none_later key replica r at [] all = refl
none_later key replica r at (s ∷ rows) all =
    ap (λ b. cond b (count_mark s) (mark_in key replica rows)) (moves_on key replica r at s (and_left (is_lt (row_cmp r s)) _ all))
    ∙ none_later key replica r at rows (and_right (is_lt (row_cmp r s)) _ all)

-- the others, and the one
total-cut : (key : List ℕ) (replica : ℕ) (rows : List CountRow) → rows_rise rows ≡ true → count_total rows ≡ plus (count_total (cut key replica rows)) (mark_in key replica rows)
total-cut key replica [] rise = sym (whole-total count_mark [])
total-cut key replica (r ∷ rows) rise =
    let others = cut key replica rows in
    let again = total-cut key replica rows (and_right (list_all (λ s. is_lt (row_cmp r s)) rows) _ rise) in
    total-cons count_mark r rows
    ∙ elim (is_at key replica r) as (λ b. is_at key replica r ≡ b → plus (count_total rows) (count_mark r) ≡ plus (count_total (cond (not b) (r ∷ others) others)) (cond b (count_mark r) (mark_in key replica rows))) [
      | true ↦ λ at. ap (λ m. plus m (count_mark r)) (again ∙ ap (plus (count_total others)) (none_later key replica r at rows (and_left _ (rows_rise rows) rise)) ∙ whole-total count_mark others)
      | false ↦ λ _. ap (λ m. plus m (count_mark r)) again ∙ turn (count_total others) (mark_in key replica rows) (count_mark r) ∙ ap (λ m. plus m (mark_in key replica rows)) (sym (total-cons count_mark r others))
    ] refl

-- another's mark stays
mark_in-cut : (key k : List ℕ) (replica i : ℕ) → ((r : CountRow) → is_at k i r ≡ true → is_at key replica r ≡ false) → (rows : List CountRow) → mark_in k i (cut key replica rows) ≡ mark_in k i rows
mark_in-cut key k replica i apart [] = refl
mark_in-cut key k replica i apart (r ∷ rows) =
    let again = mark_in-cut key k replica i apart rows in
    elim (is_at key replica r) as (λ b. is_at key replica r ≡ b → mark_in k i (cond (not b) (r ∷ cut key replica rows) (cut key replica rows)) ≡ mark_in k i (r ∷ rows)) [
      | true ↦ λ is. again ∙ sym (ap (λ b. cond b (count_mark r) (mark_in k i rows)) (elsewhere is))
      | false ↦ λ _. ap (cond (is_at k i r) (count_mark r)) again
    ] refl
  where
    elsewhere : is_at key replica r ≡ true → is_at k i r ≡ false
    elsewhere is = by (is_at k i r) refl
      where
        by : (b : Bool) → is_at k i r ≡ b → b ≡ false
        by true at = not_both (is_at key replica r) is (apart r at)
        by false at = refl

-- ---- rows in order

module _ (p : CountRow → Bool) where
  all-filter : (t : CountRow → Bool) (rows : List CountRow) → list_all t rows ≡ true → list_all t (filter p rows) ≡ true
  all-filter t [] all = refl
  all-filter t (r ∷ rows) all =
      let again = all-filter t rows (and_right (t r) _ all) in
      elim (p r) as (λ b. list_all t (cond b (r ∷ filter p rows) (filter p rows)) ≡ true) [ true ↦ and_true _ _ (and_left (t r) _ all) again | false ↦ again ]

  rise-filter : (rows : List CountRow) → rows_rise rows ≡ true → rows_rise (filter p rows) ≡ true
  rise-filter [] rise = refl
  rise-filter (r ∷ rows) rise =
      let again = rise-filter rows (and_right (list_all (λ s. is_lt (row_cmp r s)) rows) _ rise) in
      let before = all-filter (λ s. is_lt (row_cmp r s)) rows (and_left _ (rows_rise rows) rise) in
      elim (p r) as (λ b. rows_rise (cond b (r ∷ filter p rows) (filter p rows)) ≡ true) [ true ↦ and_true _ _ before again | false ↦ again ]

  rows-filter : (rows : List CountRow) → AreCountRows rows → AreCountRows (filter p rows)
  rows-filter rows are = record { rise = rise-filter rows are.rise; are = all-filter is_row rows are.are }

-- rows with the same numbers are the same
same_count_rows : (xs ys : List CountRow) → AreCountRows xs → AreCountRows ys → ((k : List ℕ) (i : ℕ) → pair_of xs k i ≡ pair_of ys k i) → xs ≡ ys
same_count_rows xs ys are_xs are_ys same =
    sym (count_rows-counts_of xs are_xs)
    ∙ ap count_rows (same_counts (counts_of xs) (counts_of ys) (λ q.
    sym (get-counts_of xs (counts_of xs) refl q) ∙ sym (pair_number xs are_xs.rise q.key q.replica q.which)
    ∙ ap (number_in_pair q.which) (same q.key q.replica)
    ∙ pair_number ys are_ys.rise q.key q.replica q.which ∙ get-counts_of ys (counts_of ys) refl q))
    ∙ count_rows-counts_of ys are_ys

-- whether two keys and replicas are the same
abbrev is_same : List ℕ → ℕ → List ℕ → ℕ → Bool
is_same key replica k i = is_eq (ordering_then (slice_cmp nat_cmp key k) (nat_cmp replica i))

pair_cond : (b e : Bool) (x y : ℕ × ℕ) → (b ≡ true → e ≡ false) → cond b x (cond e (0, 0) y) ≡ cond e (0, 0) (cond b x y)
pair_cond true true x y h = not_both true refl (h refl)
pair_cond true false x y h = refl
pair_cond false true x y h = refl
pair_cond false false x y h = refl

pair_gone : (b e : Bool) (x y : ℕ × ℕ) → b ≡ e → cond e (0, 0) y ≡ cond e (0, 0) (cond b x y)
pair_gone true true x y h = refl
pair_gone true false x y h = not_both false (sym h) refl
pair_gone false true x y h = refl
pair_gone false false x y h = refl

-- the numbers that are left
pair-cut : (key : List ℕ) (replica : ℕ) (rows : List CountRow) (k : List ℕ) (i : ℕ) → pair_of (cut key replica rows) k i ≡ cond (is_same key replica k i) (0, 0) (pair_of rows k i)
pair-cut key replica [] k i = by (is_same key replica k i)
  where
    by : (b : Bool) → ◌≡◌ {A = ℕ × ℕ} (0, 0) (cond b (0, 0) (0, 0))
    by true = refl
    by false = refl
pair-cut key replica (r ∷ rows) k i =
    let again = pair-cut key replica rows k i in
    elim (is_at key replica r) as (λ b. is_at key replica r ≡ b → pair_of (cond (not b) (r ∷ cut key replica rows) (cut key replica rows)) k i ≡ cond (is_same key replica k i) (0, 0) (pair_of (r ∷ rows) k i)) [
      | true ↦ λ is. again ∙ pair_gone (is_at k i r) (is_same key replica k i) (r.p, r.n) (pair_of rows k i) (same is)
      | false ↦ λ isnt. ap (cond (is_at k i r) (r.p, r.n)) again ∙ pair_cond (is_at k i r) (is_same key replica k i) (r.p, r.n) (pair_of rows k i) (λ at. apart isnt at)
    ] refl
  where
    same : is_at key replica r ≡ true → is_at k i r ≡ is_same key replica k i
    same is = let at = same_spot key replica r (equal_of _ is) in ap (λ x. is_eq (ordering_then (slice_cmp nat_cmp x k) (nat_cmp r.replica i))) at.0 ∙ ap (λ x. is_eq (ordering_then (slice_cmp nat_cmp key k) (nat_cmp x i))) at.1

    apart : is_at key replica r ≡ false → is_at k i r ≡ true → is_same key replica k i ≡ false
    apart isnt is =
        let at = same_spot k i r (equal_of _ is) in
        by (is_same key replica k i) refl
      where
        by : (b : Bool) → is_same key replica k i ≡ b → b ≡ false
        by false e = refl
        by true e =
            let at = same_spot k i r (equal_of _ is) in
            let there = same_spot k i (record { key = key; replica = replica; p = 0; n = 0 }) (equal_of _ e) in
            not_both (is_at key replica r)
            (ap (λ x. is_eq (ordering_then (slice_cmp nat_cmp x key) (nat_cmp r.replica replica))) (at.0 ∙ sym there.0)
            ∙ ap (λ x. is_eq (ordering_then (slice_cmp nat_cmp key key) (nat_cmp x replica))) (at.1 ∙ sym there.1)
            ∙ rw (tied_itself nat_list_cmp_total key, tied_itself nat_cmp_total replica) refl)
            isnt

-- ---- one row changes

-- where all else is the same, the one row's marks are exchanged
pub row_changed : (key : List ℕ) (replica : ℕ) (xs ys : List CountRow) → AreCountRows xs → AreCountRows ys
    → ((k : List ℕ) (i : ℕ) → is_same key replica k i ≡ false → pair_of ys k i ≡ pair_of xs k i)
    → plus (count_total ys) (mark_in key replica xs) ≡ plus (count_total xs) (mark_in key replica ys)
row_changed key replica xs ys are_xs are_ys same =
    let rest : cut key replica ys ≡ cut key replica xs = same_count_rows _ _ (rows-filter _ ys are_ys) (rows-filter _ xs are_xs) (λ k i.
    pair-cut key replica ys k i ∙ each k i (is_same key replica k i) refl ∙ sym (pair-cut key replica xs k i)) in
    ap (λ m. plus m (mark_in key replica xs)) (total-cut key replica ys are_ys.rise ∙ ap (λ rows. plus (count_total rows) (mark_in key replica ys)) rest)
    ∙ turn (count_total (cut key replica xs)) (mark_in key replica ys) (mark_in key replica xs)
    ∙ ap (λ m. plus m (mark_in key replica ys)) (sym (total-cut key replica xs are_xs.rise))
  where
    each : (k : List ℕ) (i : ℕ) (b : Bool) → is_same key replica k i ≡ b → cond b (0, 0) (pair_of ys k i) ≡ cond b (0, 0) (pair_of xs k i)
    each k i true is = refl
    each k i false is = same k i is

-- ---- the rows of others' keys and replicas

abbrev cut_all : List CountRow → List CountRow → List CountRow
cut_all [] rows = rows
cut_all (d ∷ others) rows = cut_all others (cut d.key d.replica rows)

rows-cut_all : (others rows : List CountRow) → AreCountRows rows → AreCountRows (cut_all others rows)
rows-cut_all [] rows are = are
rows-cut_all (d ∷ others) rows are = rows-cut_all others (cut d.key d.replica rows) (rows-filter _ rows are)

marks_in-cut : (d : CountRow) (rows others : List CountRow) → list_all (λ s. is_lt (row_cmp d s)) others ≡ true → marks_in (cut d.key d.replica rows) others ≡ marks_in rows others
marks_in-cut d rows [] all = refl
marks_in-cut d rows (s ∷ others) all =
    let less = less_of (row_cmp d s) (and_left (is_lt (row_cmp d s)) _ all) in
    total-cons (λ r. mark_in r.key r.replica (cut d.key d.replica rows)) s others
    ∙ ap (λ m. plus m (mark_in s.key s.replica (cut d.key d.replica rows))) (marks_in-cut d rows others (and_right (is_lt (row_cmp d s)) _ all))
    ∙ ap (plus (marks_in rows others)) (mark_in-cut d.key s.key d.replica s.replica (apart less) rows)
    ∙ sym (total-cons (λ r. mark_in r.key r.replica rows) s others)
  where
    apart : row_cmp d s ≡ Less → (r : CountRow) → is_at s.key s.replica r ≡ true → is_at d.key d.replica r ≡ false
    apart less r is =
        let at = same_spot s.key s.replica r (equal_of _ is) in
        ap (λ x. is_eq (ordering_then (slice_cmp nat_cmp x d.key) (nat_cmp r.replica d.replica))) at.0
        ∙ ap (λ x. is_eq (ordering_then (slice_cmp nat_cmp s.key d.key) (nat_cmp x d.replica))) at.1
        ∙ ap is_eq (row_total.antisymm s d ∙ ap ordering_reverse less)

total-cut_all : (others rows : List CountRow) → rows_rise others ≡ true → AreCountRows rows → count_total rows ≡ plus (count_total (cut_all others rows)) (marks_in rows others)
total-cut_all [] rows rise are = sym (whole-total count_mark rows)
total-cut_all (d ∷ others) rows rise are =
    let left = cut d.key d.replica rows in
    let all = and_left _ (rows_rise others) rise in
    total-cut d.key d.replica rows are.rise
    ∙ ap (λ m. plus m (mark_in d.key d.replica rows)) (total-cut_all others left (and_right (list_all (λ s. is_lt (row_cmp d s)) others) _ rise) (rows-filter _ rows are) ∙ ap (plus (count_total (cut_all others left))) (marks_in-cut d rows others all))
    ∙ assoc (count_total (cut_all others left)) (marks_in rows others) (mark_in d.key d.replica rows)
    ∙ ap (plus (count_total (cut_all others left))) (sym (total-cons (λ r. mark_in r.key r.replica rows) d others))

abbrev any_at : List CountRow → List ℕ → ℕ → Bool
any_at others k i = list_any (is_at k i) others

pair-cut_all : (others rows : List CountRow) (k : List ℕ) (i : ℕ) → pair_of (cut_all others rows) k i ≡ cond (any_at others k i) (0, 0) (pair_of rows k i)
pair-cut_all [] rows k i = refl
pair-cut_all (d ∷ others) rows k i =
    pair-cut_all others (cut d.key d.replica rows) k i
    ∙ ap (cond (any_at others k i) (0, 0)) (pair-cut d.key d.replica rows k i)
    ∙ by (is_at k i d) (any_at others k i)
  where
    by : (a b : Bool) → cond b (0, 0) (cond a (0, 0) (pair_of rows k i)) ≡ cond (a || b) (0, 0) (pair_of rows k i)
    by true true = refl
    by true false = refl
    by false true = refl
    by false false = refl

pub rows_changed : (others xs ys : List CountRow) → rows_rise others ≡ true → AreCountRows xs → AreCountRows ys
    → ((k : List ℕ) (i : ℕ) → any_at others k i ≡ false → pair_of ys k i ≡ pair_of xs k i)
    → plus (count_total ys) (marks_in xs others) ≡ plus (count_total xs) (marks_in ys others)
rows_changed others xs ys rise are_xs are_ys same =
    let rest : cut_all others ys ≡ cut_all others xs = same_count_rows _ _ (rows-cut_all others ys are_ys) (rows-cut_all others xs are_xs) (λ k i.
    pair-cut_all others ys k i ∙ each k i (any_at others k i) refl ∙ sym (pair-cut_all others xs k i)) in
    ap (λ m. plus m (marks_in xs others)) (total-cut_all others ys rise are_ys ∙ ap (λ rows. plus (count_total rows) (marks_in ys others)) rest)
    ∙ turn (count_total (cut_all others xs)) (marks_in ys others) (marks_in xs others)
    ∙ ap (λ m. plus m (marks_in ys others)) (sym (total-cut_all others xs rise are_xs))
  where
    each : (k : List ℕ) (i : ℕ) (b : Bool) → any_at others k i ≡ b → cond b (0, 0) (pair_of ys k i) ≡ cond b (0, 0) (pair_of xs k i)
    each k i true is = refl
    each k i false is = same k i is

-- ---- numbers that are joined

pair_is : (x y : ℕ × ℕ) → ((w : Which) → number_in_pair w x ≡ number_in_pair w y) → x ≡ y
pair_is x y same = λ i. (same P i, same N i)

nowhere : (rows : List CountRow) (k : List ℕ) (i : ℕ) → any_at rows k i ≡ false → pair_of rows k i ≡ (0, 0)
nowhere [] k i none = refl
nowhere (r ∷ rows) k i none = by (is_at k i r) none (λ later. nowhere rows k i later)
  where
    by : (b : Bool) → (b || any_at rows k i) ≡ false → (any_at rows k i ≡ false → pair_of rows k i ≡ (0, 0)) → cond b (r.p, r.n) (pair_of rows k i) ≡ (0, 0)
    by true h again = not_both true refl h
    by false h again = again h

-- the numbers of rows
pair_says : (rows : List CountRow) (m : Counted) → AreCountRows rows → counts_of rows ≡ m → (k : List ℕ) (i : ℕ) (w : Which) → number_in_pair w (pair_of rows k i) ≡ number m (place k i w)
pair_says rows m are is k i w = pair_number rows are.rise k i w ∙ get-counts_of rows m is (place k i w)

pub marks_joined : (a d c : Counted) → AreCountRows (count_rows a) → AreCountRows (count_rows d) → AreCountRows (count_rows c) → counts_of (count_rows a) ≡ a → counts_of (count_rows d) ≡ d → counts_of (count_rows c) ≡ c
    → ((q : Place) → number c q ≡ max (number a q) (number d q))
    → plus (count_total (count_rows c)) (marks_in (count_rows a) (count_rows d)) ≡ plus (count_total (count_rows a)) (marks_in (count_rows c) (count_rows d))
marks_joined a d c are_a are_d are_c is_a is_d is_c joined =
    rows_changed (count_rows d) (count_rows a) (count_rows c) are_d.rise are_a are_c (λ k i none. pair_is _ _ (λ w.
    pair_says (count_rows c) c are_c is_c k i w ∙ joined (place k i w)
    ∙ none_there (number a (place k i w)) (number d (place k i w)) (sym (pair_says (count_rows d) d are_d is_d k i w) ∙ ap (number_in_pair w) (nowhere (count_rows d) k i none) ∙ zero_of w)
    ∙ sym (pair_says (count_rows a) a are_a is_a k i w)))
  where
    none_there : (n m : ℕ) → m ≡ 0 → max n m ≡ n
    none_there n m h = omega (arith, h)

    zero_of : (w : Which) → number_in_pair w (0, 0) ≡ 0
    zero_of P = refl
    zero_of N = refl

-- ---- a number that is raised

pub mark_raised : (a c : Counted) (key : List ℕ) (replica : ℕ) (which : Which) → AreCountRows (count_rows a) → AreCountRows (count_rows c) → counts_of (count_rows a) ≡ a → counts_of (count_rows c) ≡ c
    → ((q : Place) → eq_by_cmp place_cmp q (place key replica which) ≡ false → number c q ≡ number a q)
    → plus (count_total (count_rows c)) (mark_in key replica (count_rows a)) ≡ plus (count_total (count_rows a)) (mark_in key replica (count_rows c))
mark_raised a c key replica which are_a are_c is_a is_c raised =
    row_changed key replica (count_rows a) (count_rows c) are_a are_c (λ k i other. pair_is _ _ (λ w.
    pair_says (count_rows c) c are_c is_c k i w ∙ raised (place k i w) (elsewhere k i w other) ∙ sym (pair_says (count_rows a) a are_a is_a k i w)))
  where
    elsewhere : (k : List ℕ) (i : ℕ) (w : Which) → is_same key replica k i ≡ false → eq_by_cmp place_cmp (place k i w) (place key replica which) ≡ false
    elsewhere k i w other = by (eq_by_cmp place_cmp (place k i w) (place key replica which)) refl
      where
        by : (b : Bool) → eq_by_cmp place_cmp (place k i w) (place key replica which) ≡ b → b ≡ false
        by false e = refl
        by true e =
            let is : place k i w ≡ place key replica which = place_exact _ _ (equal_of _ e) in
            not_both (is_same key replica k i)
            (ap (λ x. is_eq (ordering_then (slice_cmp nat_cmp key x) (nat_cmp replica i))) (ap (λ (q : Place). q.key) is)
            ∙ ap (λ x. is_eq (ordering_then (slice_cmp nat_cmp key key) (nat_cmp replica x))) (ap (λ (q : Place). q.replica) is)
            ∙ rw (tied_itself nat_list_cmp_total key, tied_itself nat_cmp_total replica) refl)
            other

-- ---- where a search ends

mark_there : (key : List ℕ) (replica : ℕ) (rows : List CountRow) → rows_rise rows ≡ true → (e : CountRow) (i : ℕ) → i < length rows → spot_cmp key replica (get_or rows i e) ≡ Equal → mark_in key replica rows ≡ count_mark (get_or rows i e)
mark_there key replica [] rise e i lt same = absurd (omega arith)
mark_there key replica (r ∷ rows) rise e zero lt same = ap (λ o. cond (is_eq o) (count_mark r) (mark_in key replica rows)) same
mark_there key replica (r ∷ rows) rise e (suc i) lt same =
    let is = same_spot key replica (get_or rows i e) same in
    let less : row_cmp r (get_or rows i e) ≡ Less = after_at r e rows (and_left (list_all (λ t. is_lt (row_cmp r t)) rows) _ rise) i (omega arith) in
    let before : spot_cmp key replica r ≡ Less = rw (← is.0, ← is.1) less in
    ap (λ o. cond (is_eq o) (count_mark r) (mark_in key replica rows)) before
    ∙ mark_there key replica rows (and_right (list_all (λ t. is_lt (row_cmp r t)) rows) _ rise) e i (omega arith) same

mark_nowhere : (key : List ℕ) (replica : ℕ) (rows : List CountRow) (e : CountRow) → ((k : ℕ) → k < length rows → is_eq (spot_cmp key replica (get_or rows k e)) ≡ false) → mark_in key replica rows ≡ no_mark
mark_nowhere key replica [] e none = refl
mark_nowhere key replica (r ∷ rows) e none = ap (λ b. cond b (count_mark r) (mark_in key replica rows)) (none 0 (omega arith)) ∙ mark_nowhere key replica rows e (λ k lt. none (suc k) (omega arith))

pub mark_found : (key : List ℕ) (replica : ℕ) (rows : List CountRow) → rows_rise rows ≡ true → (at : ℕ) → IsSpot key replica rows (Ok at) → (e : CountRow) → mark_in key replica rows ≡ count_mark (get_or rows at e)
mark_found key replica rows rise at spot e = mark_there key replica rows rise e at spot.bound (spot.position e)

pub mark_lacking : (key : List ℕ) (replica : ℕ) (rows : List CountRow) → rows_rise rows ≡ true → (at : ℕ) → IsSpot key replica rows (Err at) → mark_in key replica rows ≡ no_mark
mark_lacking key replica rows rise at spot =
    let e : CountRow = record { key = key; replica = replica; p = 0; n = 0 } in
    let by = parted key replica rows rise at spot e in
    mark_nowhere key replica rows e (λ k lt. elim (cases_lt k at) [
      | inl below ↦ ap is_eq (by.0 k below)
      | inr from ↦ ap is_eq (by.1 k from lt)
    ])
