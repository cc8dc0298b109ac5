-- Rows of counters that were read by packed numbers are rows, and what they met was told.
use Rattle.std.proofs.Common.{◌≡◌, ℕ, zero, suc, ◌<◌, Bool, true, false, cond, ltb, ◌&&◌, ◌||◌, List, [], ◌∷◌, ◌++◌, Option, Some, Ok, refl, sym, ap, subst, ◌∙◌, append_assoc}
use Rattle.std.specs.Prelude.{slice_get, fold}
use Rattle.std.proofs.lemmas.Bool.{lt-ltb}
use Rattle.rds_names.specs.Conditions.{and_true, and_left, and_right}
use Rattle.rds_counts.specs.declared.row.CountRow.{CountRow}
use Rattle.rds_counts.specs.Counted.{is_row, row_before_next, rows_fit, AreCountRows}
use Rattle.rds_counts.specs.CountedLemmas.{fits_rows, rows_fit_of}
use Rattle.rds_life.specs.Life.{live_rows}
use Rattle.rds_bytes.specs.Packed.{packed_by, nothing_at, packed_up_to, packed_at}
use Rattle.rds_bytes.specs.Reading.{Reader, then_at, pair_at, made_at, when_at, byte_at, last, comes_after_row, is_next_place, keyed_place_at, is_count, is_second, count_row_by}
use Rattle.rds_bytes.specs.Table.{after_key, live_keys, counter_keys, used_keys}
use Rattle.rds_bytes.specs.TableValue.{TableValue, meeting}
use Rattle.rds_bytes.proofs.Format.{IsBytes, ok_is, byte_format}
use Rattle.rds_bytes.proofs.PartFormats.{last-push}
use Rattle.rds_feeds.specs.Numbered.{TabledLives, met_of, with_met}
use Rattle.rds_feeds.specs.Parts.{WasRead}
use Rattle.rds_feeds.specs.WasRead.{made_read, drawn_read, then_read, when_read}
use Rattle.rds_packed.specs.CountTexts.{packed_counts_at, packed_count_row_at}
use Rattle.rds_packed.specs.PackedReading.{packed_u32_at, packed_key_at}

fit_push : (rows pre : List CountRow) (row : CountRow) → rows_fit rows ≡ true → is_row row ≡ true → comes_after_row (last (pre ++ rows)) row.key row.replica ≡ true → rows_fit (rows ++ row ∷ []) ≡ true
fit_push [] pre row fit is after = and_true _ _ (and_true _ _ is refl) refl
fit_push (r ∷ []) pre row fit is after =
    let next : comes_after_row (Some r) row.key row.replica ≡ true = ap (λ (o : Option CountRow). comes_after_row o row.key row.replica) (sym (last-push pre r)) ∙ after in
    let had = and_left (is_row r) true (and_left (is_row r && true) true fit) in
    and_true _ _ (and_true _ _ had next) (and_true _ _ (and_true _ _ is refl) refl)
fit_push (r ∷ (s ∷ rows)) pre row fit is after =
    let front = and_left (is_row r && row_before_next r (s ∷ rows)) (rows_fit (s ∷ rows)) fit in
    let later = and_right (is_row r && row_before_next r (s ∷ rows)) (rows_fit (s ∷ rows)) fit in
    let again : comes_after_row (last ((pre ++ r ∷ []) ++ (s ∷ rows))) row.key row.replica ≡ true =
    ap (λ (rs : List CountRow). comes_after_row (last rs) row.key row.replica) (append_assoc pre (r ∷ []) (s ∷ rows)) ∙ after in
    and_true _ _ front (fit_push (s ∷ rows) (pre ++ r ∷ []) row later is again)

-- ---- what is left of bytes after a packed number

rest_leaves : (more : ℕ) → ((bytes : List ℕ) (n : ℕ) (rest : List ℕ) → IsBytes bytes → packed_up_to more bytes ≡ Ok (n, rest) → IsBytes rest) → (b : Bool) (bytes : List ℕ) (n : ℕ) (rest : List ℕ) → IsBytes bytes
    → cond b nothing_at (when_at (ltb 0) (packed_up_to more)) bytes ≡ Ok (n, rest) → IsBytes rest
rest_leaves more again true bytes n rest fits is = subst IsBytes (ap (λ (x : ℕ × List ℕ). x.1) (ok_is (0, bytes) (n, rest) is)) fits
rest_leaves more again false bytes n rest fits is = again bytes n rest fits (when_read (ltb 0) (packed_up_to more) bytes n rest is).0

packed_leaves : (more : ℕ) (bytes : List ℕ) (n : ℕ) (rest : List ℕ) → IsBytes bytes → packed_up_to more bytes ≡ Ok (n, rest) → IsBytes rest
unfolding packed_up_to
packed_leaves zero bytes n rest fits is =
    let read = when_read (λ b. ltb b 128) byte_at bytes n rest is in
    (byte_format.takes bytes (n, rest) fits read.0).0.rest_fits
packed_leaves (suc more) bytes n rest fits is =
    let g : ℕ → Reader ℕ = λ b. cond (ltb b 128) nothing_at (when_at (ltb 0) (packed_up_to more)) in
    let made = made_read packed_by (then_at byte_at g) bytes n rest is in
    let both = then_read byte_at g bytes made.0 rest made.1 in
    let first = byte_format.takes bytes (both.first, both.middle) fits both.first_is in
    rest_leaves more (packed_leaves more) (ltb both.first 128) both.middle both.second rest first.0.rest_fits both.second_is

key_leaves : (table : List (List ℕ)) (bytes k rest : List ℕ) → IsBytes bytes → packed_key_at table bytes ≡ Ok (k, rest) → IsBytes rest
unfolding packed_key_at
key_leaves table bytes k rest fits is =
    let number = drawn_read (slice_get table) packed_u32_at bytes k rest is in
    let packed = when_read _ packed_at bytes number.0 rest number.1 in
    packed_leaves 6 bytes number.0 rest fits packed.0

-- ---- a row comes next, and its numbers are within their limits

abbrev IsNextCountRow : List CountRow → CountRow → Type 0
IsNextCountRow before row = (comes_after_row (last before) row.key row.replica ≡ true) × (is_row row ≡ true)

abbrev second_at : ℕ → Reader ℕ
second_at p = when_at (is_second p) packed_at

are_numbers : (p n replica : ℕ) → is_count p ≡ true → is_second p n ≡ true → replica < 256 → ((ltb 0 p || ltb 0 n) && is_count p && is_count n && ltb replica 256) ≡ true
are_numbers p n replica first second small =
    let some = and_right (is_count n) (ltb 0 p || ltb 0 n) second in
    let most = and_left (is_count n) (ltb 0 p || ltb 0 n) second in
    and_true _ _ (and_true _ _ (and_true _ _ some first) most) (lt-ltb replica 256 small)

next_read : (table : List (List ℕ)) (replicas : ℕ) (before : List CountRow) (row : CountRow) → WasRead (packed_count_row_at (packed_key_at table) replicas before) row → IsNextCountRow before row
unfolding packed_count_row_at keyed_place_at packed_counts_at
next_read table replicas before row read =
    let key = packed_key_at table in
    let made = made_read count_row_by (pair_at (keyed_place_at key replicas before) packed_counts_at) read.0 row read.1 read.2 in
    let both = then_read (keyed_place_at key replicas before) (λ _. packed_counts_at) read.0 made.0 read.1 made.1 in
    let place = when_read (is_next_place replicas before) (pair_at key byte_at) read.0 both.first both.middle both.first_is in
    let parts = then_read key (λ _. byte_at) read.0 both.first both.middle place.0 in
    let byte = byte_format.takes parts.middle (parts.second, both.middle) (key_leaves table read.0 parts.first parts.middle read.3 parts.first_is) parts.second_is in
    let small = subst (λ (p : List ℕ × ℕ). p.1 < 256) parts.are byte.1 in
    let numbers = then_read (when_at is_count packed_at) second_at both.middle both.second read.1 both.second_is in
    let p = when_read is_count packed_at both.middle numbers.first numbers.middle numbers.first_is in
    let n = when_read (is_second numbers.first) packed_at numbers.middle numbers.second read.1 numbers.second_is in
    let after = and_left (comes_after_row (last before) both.first.0 both.first.1) (ltb both.first.1 replicas) place.1 in
    let same : count_row_by (both.first, (numbers.first, numbers.second)) ≡ row = ap (λ (x : ℕ × ℕ). count_row_by (both.first, x)) numbers.are ∙ ap count_row_by both.are ∙ made.2 in
    subst (IsNextCountRow before) same (after, are_numbers numbers.first numbers.second both.first.1 p.1 n.1 small)

-- ---- with one more row

abbrev pub counts_met : TabledLives → List CountRow → Option ℕ
counts_met lives rows = met_of lives.0 (used_keys (live_rows lives.1) rows)

-- they are rows, and what they meet was told
pub count_added : (lives : TabledLives) (replicas : ℕ) (rows : List CountRow) (part : CountRow × Option ℕ) → AreCountRows rows
    → WasRead (made_at (with_met (counts_met lives) rows) (packed_count_row_at (packed_key_at lives.0) replicas rows)) part → (part.1 ≡ counts_met lives (rows ++ part.0 ∷ [])) × AreCountRows (rows ++ part.0 ∷ [])
count_added lives replicas rows part are read =
    let made = made_read (with_met (counts_met lives) rows) (packed_count_row_at (packed_key_at lives.0) replicas rows) read.0 part read.1 read.2 in
    let next = next_read lives.0 replicas rows made.0 (read.0, read.1, made.1, read.3) in
    let go = fits_rows (rows ++ made.0 ∷ []) (fit_push rows [] made.0 (rows_fit_of rows are) next.1 next.0) in
    subst (λ (x : CountRow × Option ℕ). (x.1 ≡ counts_met lives (rows ++ x.0 ∷ [])) × AreCountRows (rows ++ x.0 ∷ [])) made.2 (refl, go)

module _ {K : Type 0} (f : K → List ℕ → K) where
  fold_push : (k : K) (xs : List (List ℕ)) (x : List ℕ) → fold f k (xs ++ x ∷ []) ≡ f (fold f k xs) x
  fold_push k [] x = refl
  fold_push k (y ∷ ys) x = fold_push (f k y) ys x

keys_push : (rows : List CountRow) (row : CountRow) → counter_keys (rows ++ row ∷ []) ≡ counter_keys rows ++ row.key ∷ []
keys_push [] row = refl
keys_push (r ∷ rows) row = ap (λ (t : List (List ℕ)). r.key ∷ t) (keys_push rows row)

-- what is met after one more row
pub count_row_met : (lives : TabledLives) (rows : List CountRow) (row : CountRow) (met : Option ℕ) (now : TableValue) → met ≡ counts_met lives rows
    → now ≡ meeting (record { keys = lives.0; met = met }) row.key → now.met ≡ counts_met lives (rows ++ row ∷ [])
count_row_met lives rows row met now so_far is =
    let keys = live_keys (live_rows lives.1) in
    let pushed : used_keys (live_rows lives.1) (rows ++ row ∷ []) ≡ used_keys (live_rows lives.1) rows ++ row.key ∷ [] =
    ap (λ (t : List (List ℕ)). keys ++ t) (keys_push rows row) ∙ sym (append_assoc keys (counter_keys rows) (row.key ∷ [])) in
    ap (λ (t : TableValue). t.met) is
    ∙ ap (λ (m : Option ℕ). after_key lives.0 m row.key) so_far
    ∙ sym (fold_push (after_key lives.0) (Some 0) (used_keys (live_rows lives.1) rows) row.key)
    ∙ ap (met_of lives.0) (sym pushed)
