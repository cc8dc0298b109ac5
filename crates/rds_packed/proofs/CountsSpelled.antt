-- Counters with the numbers of their keys in a table are spelled by these keys.
use Rattle.std.proofs.Common.{◌≡◌, ℕ, ◌+◌, true, leb, ltb, ◌&&◌, ◌||◌, List, [], ◌∷◌, ◌++◌, length, Result, Ok, Err, refl, sym, ap, ◌∙◌, arith, append_assoc, length-append, map as each}
use Rattle.std.specs.List.{flat_map}
use Rattle.std.proofs.lemmas.Bool.{leb-true}
use Rattle.std.proofs.lemmas.List.Concat.{flat_map-cons}
use Rattle.rds_names.specs.Conditions.{and_left, and_right}
use Rattle.rds_counts.specs.declared.row.CountRow.{CountRow}
use Rattle.rds_counts.specs.Counted.{Counted, is_row, row_before_next, rows_fit, AreCountRows}
use Rattle.rds_counts.specs.CountedLemmas.{rows_fit_of}
use Rattle.rds_counts.specs.RowsOf.{count_rows}
use Rattle.rds_bytes.specs.Packed.{packed_text}
use Rattle.rds_bytes.specs.Table.{table_number, counter_keys}
use Rattle.rds_bytes.specs.Writing.{Adds}
use Rattle.rds_packed.specs.PackedTexts.{packed_key_text}
use Rattle.rds_packed.specs.CountTexts.{packed_count_row_text, packed_counters_text, numbers_counts_text, AreCountNumbersIn, AreWithin}

module _ (table : List (List ℕ)) where
  abbrev row_text : CountRow → List ℕ
  row_text = packed_count_row_text (packed_key_text table)

  counts_spelled : (rows : List CountRow) → numbers_counts_text rows (each (table_number table) (counter_keys rows)) ≡ flat_map row_text rows
  counts_spelled [] = refl
  counts_spelled (r ∷ rows) = ap (λ (t : List ℕ). row_text r ++ t) (counts_spelled rows) ∙ sym (flat_map-cons row_text r rows)

  module _ (m : Counted) (numbers : List ℕ) (are : AreCountNumbersIn table (count_rows m) numbers) where
    abbrev rows : List CountRow
    rows = count_rows m

    spelled : packed_text (length rows) ++ numbers_counts_text rows numbers ≡ packed_counters_text (packed_key_text table) m
    unfolding packed_counters_text
    spelled = ap (λ (t : List ℕ). packed_text (length rows) ++ t) (ap (numbers_counts_text rows) are ∙ counts_spelled rows)

    pub counters_measured : (count all : ℕ) → count ≡ length (packed_text (length rows)) → all ≡ length (numbers_counts_text rows numbers) → count + all ≡ length (packed_counters_text (packed_key_text table) m)
    counters_measured count all p q =
        let both = length-append (packed_text (length rows)) (numbers_counts_text rows numbers) in
        omega (arith, p, q, both) ∙ ap length spelled

    pub counters_added : {T E : Type 0} (r : Result T E) (old middle new : List ℕ) → middle ≡ old ++ packed_text (length rows) → Adds middle new (numbers_counts_text rows numbers) r → Adds old new (packed_counters_text (packed_key_text table) m) r
    counters_added (Ok t) old middle new p q =
        q ∙ ap (λ (l : List ℕ). l ++ numbers_counts_text rows numbers) p ∙ append_assoc old (packed_text (length rows)) (numbers_counts_text rows numbers) ∙ ap (λ (l : List ℕ). old ++ l) spelled
    counters_added (Err e) old middle new p q = tt

-- each number of counters is within the limit
within_of : (rows : List CountRow) → rows_fit rows ≡ true → AreWithin rows
within_of [] fit = tt
within_of (r ∷ rows) fit =
    let front = and_left (is_row r && row_before_next r rows) (rows_fit rows) fit in
    let is = and_left (is_row r) (row_before_next r rows) front in
    let some = ltb 0 r.p || ltb 0 r.n in
    let both = and_left (some && leb r.p 281474976710655 && leb r.n 281474976710655) _ is in
    let n = and_right (some && leb r.p 281474976710655) (leb r.n 281474976710655) both in
    let p = and_right some (leb r.p 281474976710655) (and_left (some && leb r.p 281474976710655) (leb r.n 281474976710655) both) in
    ((leb-true r.p 281474976710655 p, leb-true r.n 281474976710655 n), within_of rows (and_right (is_row r && row_before_next r rows) (rows_fit rows) fit))

pub are_within : (rows : List CountRow) → AreCountRows rows → AreWithin rows
are_within rows are = within_of rows (rows_fit_of rows are)
