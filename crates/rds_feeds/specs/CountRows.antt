-- Rows of counters that were read are rows.
use Rattle.std.proofs.Common.{◌≡◌, ℕ, ◌<◌, true, ltb, ◌&&◌, ◌||◌, List, [], ◌∷◌, ◌++◌, Option, Some, Ok, refl, sym, ap, subst, ◌∙◌, append_assoc}
use Rattle.std.specs.Prelude.{slice_get}
use Rattle.std.specs.Int.{w32, w64}
use Rattle.std.proofs.lemmas.Bool.{lt-ltb}
use Rattle.rds_names.specs.Conditions.{and_true, and_left, and_right}
use Rattle.rds_counts.specs.declared.row.CountRow.{CountRow}
use Rattle.rds_counts.specs.Counted.{is_row, row_before_next, rows_fit, AreCountRows}
use Rattle.rds_counts.specs.CountedLemmas.{fits_rows, rows_fit_of}
use Rattle.rds_bytes.specs.Reading.{Reader, pair_at, when_at, key_at, byte_at, number_at, last, comes_after_row, is_next_place, keyed_place_at, is_count, is_second, counts_at, count_row_by, count_row_at, keyed_count_row_at}
use Rattle.rds_bytes.specs.TableTexts.{numbered_at}
use Rattle.rds_bytes.proofs.Format.{IsBytes, byte_format, number32}
use Rattle.rds_bytes.proofs.PartFormats.{key_format, last-push}
use Rattle.rds_bytes.proofs.ShortKeys.{count_row_is}
use Rattle.rds_feeds.specs.Parts.{WasRead}
use Rattle.rds_feeds.specs.WasRead.{made_read, drawn_read, then_read, when_read}

fit_push : (rows pre : List CountRow) (row : CountRow) → rows_fit rows ≡ true → is_row row ≡ true → comes_after_row (last (pre ++ rows)) row.key row.replica ≡ true → rows_fit (rows ++ row ∷ []) ≡ true
fit_push [] pre row fit is after = and_true _ _ (and_true _ _ is refl) refl
fit_push (r ∷ []) pre row fit is after =
    let next : comes_after_row (Some r) row.key row.replica ≡ true = ap (λ (o : Option CountRow). comes_after_row o row.key row.replica) (sym (last-push pre r)) ∙ after in
    let had = and_left (is_row r) true (and_left (is_row r && true) true fit) in
    and_true _ _ (and_true _ _ had next) (and_true _ _ (and_true _ _ is refl) refl)
fit_push (r ∷ (s ∷ rows)) pre row fit is after =
    let front = and_left (is_row r && row_before_next r (s ∷ rows)) (rows_fit (s ∷ rows)) fit in
    let later = and_right (is_row r && row_before_next r (s ∷ rows)) (rows_fit (s ∷ rows)) fit in
    let again : comes_after_row (last ((pre ++ r ∷ []) ++ (s ∷ rows))) row.key row.replica ≡ true =
    ap (λ (rs : List CountRow). comes_after_row (last rs) row.key row.replica) (append_assoc pre (r ∷ []) (s ∷ rows)) ∙ after in
    and_true _ _ front (fit_push (s ∷ rows) (pre ++ r ∷ []) row later is again)

-- it comes next, and its numbers are within their limits
abbrev IsNextCountRow : List CountRow → CountRow → Type 0
IsNextCountRow before row = (comes_after_row (last before) row.key row.replica ≡ true) × (is_row row ≡ true)

abbrev second_at : ℕ → Reader ℕ
second_at p = when_at (is_second p) (number_at w64)

are_numbers : (p n replica : ℕ) → is_count p ≡ true → is_second p n ≡ true → replica < 256 → ((ltb 0 p || ltb 0 n) && is_count p && is_count n && ltb replica 256) ≡ true
are_numbers p n replica first second small =
    let some = and_right (is_count n) (ltb 0 p || ltb 0 n) second in
    let most = and_left (is_count n) (ltb 0 p || ltb 0 n) second in
    and_true _ _ (and_true _ _ (and_true _ _ some first) most) (lt-ltb replica 256 small)

-- what reads keys leaves bytes
abbrev LeavesBytes : Reader (List ℕ) → Type 0
LeavesBytes key = (bytes k rest : List ℕ) → IsBytes bytes → key bytes ≡ Ok (k, rest) → IsBytes rest

next_read : (key : Reader (List ℕ)) → LeavesBytes key → (replicas : ℕ) (before : List CountRow) (row : CountRow) → WasRead (keyed_count_row_at key replicas before) row → IsNextCountRow before row
unfolding keyed_count_row_at keyed_place_at counts_at
next_read key leaves replicas before row read =
    let made = made_read count_row_by (pair_at (keyed_place_at key replicas before) counts_at) read.0 row read.1 read.2 in
    let both = then_read (keyed_place_at key replicas before) (λ _. counts_at) read.0 made.0 read.1 made.1 in
    let place = when_read (is_next_place replicas before) (pair_at key byte_at) read.0 both.first both.middle both.first_is in
    let parts = then_read key (λ _. byte_at) read.0 both.first both.middle place.0 in
    let byte = byte_format.takes parts.middle (parts.second, both.middle) (leaves read.0 parts.first parts.middle read.3 parts.first_is) parts.second_is in
    let small = subst (λ (p : List ℕ × ℕ). p.1 < 256) parts.are byte.1 in
    let numbers = then_read (when_at is_count (number_at w64)) second_at both.middle both.second read.1 both.second_is in
    let p = when_read is_count (number_at w64) both.middle numbers.first numbers.middle numbers.first_is in
    let n = when_read (is_second numbers.first) (number_at w64) numbers.middle numbers.second read.1 numbers.second_is in
    let after = and_left (comes_after_row (last before) both.first.0 both.first.1) (ltb both.first.1 replicas) place.1 in
    let same : count_row_by (both.first, (numbers.first, numbers.second)) ≡ row = ap (λ (x : ℕ × ℕ). count_row_by (both.first, x)) numbers.are ∙ ap count_row_by both.are ∙ made.2 in
    subst (IsNextCountRow before) same (after, are_numbers numbers.first numbers.second both.first.1 p.1 n.1 small)

pub no_count_rows : AreCountRows []
no_count_rows = record { rise = refl; are = refl }

keyed_counts_go_on : (key : Reader (List ℕ)) → LeavesBytes key → (replicas : ℕ) (rows : List CountRow) (row : CountRow) → AreCountRows rows → WasRead (keyed_count_row_at key replicas rows) row → AreCountRows (rows ++ row ∷ [])
keyed_counts_go_on key leaves replicas rows row are read =
    let next = next_read key leaves replicas rows row read in
    fits_rows (rows ++ row ∷ []) (fit_push rows [] row (rows_fit_of rows are) next.1 next.0)

-- each key is a short text
short_leaves : LeavesBytes key_at
short_leaves bytes k rest fits read = (key_format.takes bytes (k, rest) fits read).0.rest_fits

pub count_rows_go_on : (replicas : ℕ) (rows : List CountRow) (row : CountRow) → AreCountRows rows → WasRead (count_row_at replicas rows) row → AreCountRows (rows ++ row ∷ [])
count_rows_go_on replicas rows row are read =
    keyed_counts_go_on key_at short_leaves replicas rows row are (subst (λ (f : Reader CountRow). WasRead f row) (sym (count_row_is replicas rows)) read)

-- each key is a number of a table
number_leaves : (table : List (List ℕ)) → LeavesBytes (numbered_at table)
unfolding numbered_at
number_leaves table bytes k rest fits read =
    let number = drawn_read (slice_get table) (number_at w32) bytes k rest read in
    (number32.takes bytes (number.0, rest) fits number.1).0.rest_fits

pub numbered_counts_go_on : (table : List (List ℕ)) (replicas : ℕ) (rows : List CountRow) (row : CountRow) → AreCountRows rows → WasRead (keyed_count_row_at (numbered_at table) replicas rows) row → AreCountRows (rows ++ row ∷ [])
numbered_counts_go_on table = keyed_counts_go_on (numbered_at table) (number_leaves table)
