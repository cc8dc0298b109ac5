-- Rows are those of the counters that they say.
use Rattle.std.proofs.Common.{◌≡◌, ℕ, zero, suc, ◌+◌, Bool, true, ◌&&◌, ◌||◌, nat_lt, cond, List, [], ◌∷◌, ◌++◌, refl}
use Rattle.std.proofs.Common.{◌∙◌, ap, arith}
use mathlib.Core.Bool.{false≢true}
use Rattle.std.specs.List.{list_all}
use Rattle.std.specs.Cmp.{tied_itself}
use Rattle.std.specs.Ordering.{is_lt, is_eq}
use Rattle.rds_counts.specs.declared.row.Which.TheVariants.{P, N}
use Rattle.std.specs.Prelude.{nat_le}
use Rattle.rds_counts.specs.declared.row.CountRow.{CountRow}
use Rattle.rds_counts.specs.declared.row.TheConstants.{MAX_COUNT}
use Rattle.rds_counts.specs.Place.{Place}
use Rattle.rds_counts.specs.Counted.{Above, place, entry_above, components, counts_of, row_cmp, is_row, rows_rise}
use Rattle.rds_counts.specs.Counted.{row_before_next, AreCountRows}
use Rattle.rds_counts.specs.CountedLemmas.{row_total, all_before}
use Rattle.rds_names.specs.Conditions.{and_left, and_right, less_of}
use Rattle.rds_counts.specs.Entries.{entries-counts_of}
use Rattle.rds_counts.specs.RowsOf.{row_at, both, with_row, rows_of, count_rows}

with_before : (r : CountRow) (rows : List CountRow) → row_before_next r rows ≡ true → with_row r rows ≡ r ∷ rows
with_before r [] next = refl
with_before r (s ∷ rows) next = ap (λ o. cond (is_eq o) (both r s ∷ rows) (r ∷ s ∷ rows)) (less_of (row_cmp r s) next)

with_own : (r s : CountRow) (rows : List CountRow) → r.key ≡ s.key → r.replica ≡ s.replica → with_row r (s ∷ rows) ≡ both r s ∷ rows
with_own r s rows k i =
    let same : is_eq (row_cmp r s) ≡ true = rw (k, i) (ap is_eq (tied_itself row_total s)) in
    ap (λ (b : Bool). cond b (both r s ∷ rows) (r ∷ s ∷ rows)) same

row_parts : (k : List ℕ) (i a b p n : ℕ) → a ≡ p → b ≡ n → (let r : CountRow = record { key = k; replica = i; p = a; n = b } in r) ≡ (let r : CountRow = record { key = k; replica = i; p = p; n = n } in r)
row_parts k i a b p n e f = rw (e, f) refl

one_row : (k : List ℕ) (i p n : ℕ) (es : List (Place × Above)) (rows : List CountRow) → rows_of es ≡ rows → (nat_lt 0 p || nat_lt 0 n) ≡ true → row_before_next (record { key = k; replica = i; p = p; n = n }) rows ≡ true → rows_of (entry_above (place k i P) p ++ (entry_above (place k i N) n ++ es)) ≡ (let r : CountRow = record { key = k; replica = i; p = p; n = n } in r) ∷ rows
one_row k i zero zero es rows is has next = absurd (false≢true has)
one_row k i zero (suc n) es rows is has next =
    ap (with_row (row_at (place k i N) (n + 1))) is ∙ with_before (row_at (place k i N) (n + 1)) rows next ∙ ap (λ r. r ∷ rows) (row_parts k i 0 (n + 1) 0 (suc n) refl (omega arith))
one_row k i (suc p) zero es rows is has next =
    ap (with_row (row_at (place k i P) (p + 1))) is ∙ with_before (row_at (place k i P) (p + 1)) rows next ∙ ap (λ r. r ∷ rows) (row_parts k i (p + 1) 0 (suc p) 0 (omega arith) refl)
one_row k i (suc p) (suc n) es rows is has next =
    ap (λ l. with_row (row_at (place k i P) (p + 1)) (with_row (row_at (place k i N) (n + 1)) l)) is
    ∙ ap (with_row (row_at (place k i P) (p + 1))) (with_before (row_at (place k i N) (n + 1)) rows next)
    ∙ with_own (row_at (place k i P) (p + 1)) (row_at (place k i N) (n + 1)) rows refl refl
    ∙ ap (λ r. r ∷ rows) (row_parts k i (p + 1 + 0) (0 + (n + 1)) (suc p) (suc n) (omega arith) (omega arith))

row_has : (p n i m : ℕ) → ((nat_lt 0 p || nat_lt 0 n) && nat_le p m && nat_le n m && nat_lt i 256) ≡ true → (nat_lt 0 p || nat_lt 0 n) ≡ true
row_has p n i m is = and_left (nat_lt 0 p || nat_lt 0 n) _ (and_left ((nat_lt 0 p || nat_lt 0 n) && nat_le p m) _ (and_left ((nat_lt 0 p || nat_lt 0 n) && nat_le p m && nat_le n m) _ is))

rows_of-components : (rows : List CountRow) → rows_rise rows ≡ true → list_all is_row rows ≡ true → rows_of (components rows) ≡ rows
rows_of-components [] rise are = refl
rows_of-components (r ∷ rows) rise are =
    one_row r.key r.replica r.p r.n (components rows) rows
    (rows_of-components rows (and_right (list_all (λ t. is_lt (row_cmp r t)) rows) _ rise) (and_right (is_row r) _ are))
    (row_has r.p r.n r.replica MAX_COUNT (and_left (is_row r) _ are))
    (all_before r rows (and_left _ (rows_rise rows) rise))

-- rows are found again from the counters that they say
pub count_rows-counts_of : (rows : List CountRow) → AreCountRows rows → count_rows (counts_of rows) ≡ rows
count_rows-counts_of rows are = ap rows_of (entries-counts_of rows are.rise) ∙ rows_of-components rows are.rise are.are
