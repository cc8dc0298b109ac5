-- What is found where a search for a key and a replica ends.
use Rattle.std.proofs.Common.{◌≡◌, ℕ, zero, suc, ◌+◌, ◌<◌, ◌≤◌, true, false, cond, List, [], ◌∷◌, length, get_or}
use Rattle.std.proofs.Common.{Result, Ok, Err, refl, sym, ◌∙◌, ap, subst, arith, inl, inr}
use Rattle.std.specs.List.{list_all}
use Rattle.std.specs.List.Sorted.{IsNonDecreasingBy}
use Rattle.std.specs.Ordering.{nat_cmp, ordering_index, ordering_reverse, is_lt, is_eq}
use Rattle.std.specs.Cmp.Lexicographic.{slice_cmp}
use Rattle.std.specs.declared.cmp.Ordering.{Ordering}
use Rattle.std.specs.declared.cmp.Ordering.TheVariants.{Less, Equal, Greater}
use Rattle.std.proofs.lemmas.List.Sorted.{searchable_from_sorted}
use Rattle.std.proofs.lemmas.Bool.{cases_lt}
use Rattle.std.proofs.lemmas.Map.Lookups.{exact_pairs, exact_unsigned, exact_bytes}
use Rattle.rds_counts.specs.declared.row.CountRow.{CountRow}
use Rattle.rds_counts.specs.Counted.{row_cmp, rows_rise, pair_of}
use Rattle.rds_counts.specs.CountedLemmas.{row_total}
use Rattle.rds_names.specs.Conditions.{and_left, and_right, less_of}
use Rattle.rds_counts.specs.Search.{spot_cmp, IsSpot}
use Rattle.rds_counts.specs.Raised.{row_of}

pub after_at : (x e : CountRow) (rows : List CountRow) → list_all (λ t. is_lt (row_cmp x t)) rows ≡ true → (j : ℕ) → j < length rows → row_cmp x (get_or rows j e) ≡ Less
after_at x e [] all j lt = absurd (omega arith)
after_at x e (r ∷ rows) all zero lt = less_of (row_cmp x r) (and_left (is_lt (row_cmp x r)) _ all)
after_at x e (r ∷ rows) all (suc j) lt = after_at x e rows (and_right (is_lt (row_cmp x r)) _ all) j (omega arith)

-- later rows are greater
pub rises_at : (rows : List CountRow) → rows_rise rows ≡ true → (e : CountRow) (i j : ℕ) → i < j → j < length rows → row_cmp (get_or rows i e) (get_or rows j e) ≡ Less
rises_at [] rise e i j lt within = absurd (omega arith)
rises_at (r ∷ rows) rise e i zero lt within = absurd (omega arith)
rises_at (r ∷ rows) rise e zero (suc j) lt within = after_at r e rows (and_left (list_all (λ t. is_lt (row_cmp r t)) rows) _ rise) j (omega arith)
rises_at (r ∷ rows) rise e (suc i) (suc j) lt within = rises_at rows (and_right (list_all (λ t. is_lt (row_cmp r t)) rows) _ rise) e i j (omega arith) (omega arith)

not_less : (o : Ordering) → ordering_reverse o ≡ Less → is_lt o ≡ false
not_less Less h = absurd (cc)
not_less Equal h = refl
not_less Greater h = refl

rising : (key : List ℕ) (replica : ℕ) (rows : List CountRow) → rows_rise rows ≡ true → IsNonDecreasingBy (λ (r : CountRow). ordering_index (spot_cmp key replica r)) rows
rising key replica rows rise = searchable_from_sorted row_total (λ (r : CountRow). r) rows (row_of key replica (0, 0))
    (λ k e low high. not_less _ (sym (row_total.antisymm (get_or rows k e) (get_or rows (k + 1) e)) ∙ rises_at rows rise e k (k + 1) (omega arith) high))

-- a row that is at the place has its key and its replica
pub same_spot : (key : List ℕ) (replica : ℕ) (r : CountRow) → spot_cmp key replica r ≡ Equal → (r.key ≡ key) × (r.replica ≡ replica)
same_spot key replica r h =
    let e = exact_pairs (slice_cmp nat_cmp) nat_cmp exact_bytes exact_unsigned (r.key, r.replica) (key, replica) h in
    (ap (λ (p : List ℕ × ℕ). p.0) e, ap (λ (p : List ℕ × ℕ). p.1) e)

pair_there : (key : List ℕ) (replica : ℕ) (rows : List CountRow) → rows_rise rows ≡ true → (e : CountRow) (i : ℕ) → i < length rows → spot_cmp key replica (get_or rows i e) ≡ Equal → pair_of rows key replica ≡ ((get_or rows i e).p, (get_or rows i e).n)
pair_there key replica [] rise e i lt same = absurd (omega arith)
pair_there key replica (r ∷ rows) rise e zero lt same = ap (λ o. cond (is_eq o) (r.p, r.n) (pair_of rows key replica)) same
pair_there key replica (r ∷ rows) rise e (suc i) lt same =
    let is = same_spot key replica (get_or rows i e) same in
    let less : row_cmp r (get_or rows i e) ≡ Less = after_at r e rows (and_left (list_all (λ t. is_lt (row_cmp r t)) rows) _ rise) i (omega arith) in
    let before : spot_cmp key replica r ≡ Less = rw (← is.0, ← is.1) less in
    ap (λ o. cond (is_eq o) (r.p, r.n) (pair_of rows key replica)) before
    ∙ pair_there key replica rows (and_right (list_all (λ t. is_lt (row_cmp r t)) rows) _ rise) e i (omega arith) same

pair_nowhere : (key : List ℕ) (replica : ℕ) (rows : List CountRow) (e : CountRow) → ((k : ℕ) → k < length rows → is_eq (spot_cmp key replica (get_or rows k e)) ≡ false) → pair_of rows key replica ≡ (0, 0)
pair_nowhere key replica [] e none = refl
pair_nowhere key replica (r ∷ rows) e none =
    ap (λ b. cond b (r.p, r.n) (pair_of rows key replica)) (none 0 (omega arith)) ∙ pair_nowhere key replica rows e (λ k lt. none (suc k) (omega arith))

-- the place where a search ends parts the rows
pub parted : (key : List ℕ) (replica : ℕ) (rows : List CountRow) → rows_rise rows ≡ true → (at : ℕ) → IsSpot key replica rows (Err at) → (e : CountRow) → ((k : ℕ) → k < at → spot_cmp key replica (get_or rows k e) ≡ Less) × ((k : ℕ) → at ≤ k → k < length rows → spot_cmp key replica (get_or rows k e) ≡ Greater)
parted key replica rows rise at spot e =
    let by = spot.position (rising key replica rows rise) in
    ((λ k lt. by.0 k e (omega arith) lt), (λ k ge lt. by.1 k e ge lt))

-- the row that is found has the numbers
pub pair_found : (key : List ℕ) (replica : ℕ) (rows : List CountRow) → rows_rise rows ≡ true → (at : ℕ) → IsSpot key replica rows (Ok at) → (e : CountRow) → pair_of rows key replica ≡ ((get_or rows at e).p, (get_or rows at e).n)
pair_found key replica rows rise at spot e = pair_there key replica rows rise e at spot.bound (spot.position e)

-- where no row is found both numbers are 0
pub pair_lacking : (key : List ℕ) (replica : ℕ) (rows : List CountRow) → rows_rise rows ≡ true → (at : ℕ) → IsSpot key replica rows (Err at) → pair_of rows key replica ≡ (0, 0)
pair_lacking key replica rows rise at spot =
    let e = row_of key replica (0, 0) in
    let by = parted key replica rows rise at spot e in
    pair_nowhere key replica rows e (λ k lt. elim (cases_lt k at) [
      | inl below ↦ ap is_eq (by.0 k below)
      | inr from ↦ ap is_eq (by.1 k from lt)
    ])

-- the pair that a search and a reading of the same rows give
pub pair_read : {key : List ℕ} {replica : ℕ} {rows searched read : List CountRow} {found : Result ℕ ℕ} {pair : ℕ × ℕ} → searched ≡ rows → read ≡ rows → IsSpot key replica searched found → ((k : List ℕ) (i : ℕ) → IsSpot k i read found → pair ≡ pair_of read k i) → pair ≡ pair_of rows key replica
pair_read {key = key} {replica = replica} {found = found} is was spot numbers = numbers key replica (subst (λ l. IsSpot key replica l found) (is ∙ sym was) spot) ∙ ap (λ l. pair_of l key replica) was
