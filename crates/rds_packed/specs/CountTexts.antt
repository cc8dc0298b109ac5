-- The text of counters in few bytes, and how they are read. Each part is judged as soon as it is there.
use Rattle.std.specs.Prelude.{◌≡◌, ℕ, ◌≤◌, List, [], ◌∷◌, ◌++◌, length, map as each}
use Rattle.std.specs.List.{flat_map, AllByRecursion}
use Rattle.rds_counts.specs.declared.row.CountRow.{CountRow}
use Rattle.rds_counts.specs.declared.row.TheConstants.{MAX_COUNT}
use Rattle.rds_counts.specs.Counted.{Counted, counts_of}
use Rattle.rds_counts.specs.RowsOf.{count_rows}
use Rattle.rds_bytes.specs.Packed.{packed_at, packed_text}
use Rattle.rds_bytes.specs.Reading.{Reader, then_at, pair_at, made_at, when_at, list_at, is_count, is_second, count_row_by, keyed_place_at}
use Rattle.rds_bytes.specs.Spelling.{byte_text, keyed_place_text}
use Rattle.rds_bytes.specs.Table.{table_number, counter_keys}
use Rattle.rds_packed.specs.PackedReading.{packed_u32_at}

-- ---- texts

abbrev pub packed_counts_text : ℕ → ℕ → List ℕ
packed_counts_text p n = packed_text p ++ packed_text n

-- for any spelling of their keys
module _ (key_text : List ℕ → List ℕ) where
  abbrev pub packed_count_row_text : CountRow → List ℕ
  packed_count_row_text r = keyed_place_text key_text r.key r.replica ++ packed_counts_text r.p r.n

  -- a row for each key and replica of which a number isn't 0
  unfoldable pub packed_counters_text : Counted → List ℕ
  packed_counters_text m = packed_text (length (count_rows m)) ++ flat_map packed_count_row_text (count_rows m)

-- ---- reading

-- two numbers that aren't both 0
unfoldable pub packed_counts_at : Reader (ℕ × ℕ)
packed_counts_at = then_at (when_at is_count packed_at) (λ p. when_at (is_second p) packed_at)

-- for any reader of their keys
module _ (key : Reader (List ℕ)) where
  unfoldable pub packed_count_row_at : ℕ → List CountRow → Reader CountRow
  packed_count_row_at replicas before = made_at count_row_by (pair_at (keyed_place_at key replicas before) packed_counts_at)

  unfoldable pub packed_count_rows_at : ℕ → Reader (List CountRow)
  packed_count_rows_at replicas = list_at packed_u32_at (packed_count_row_at replicas)

  unfoldable pub packed_counters_at : ℕ → Reader Counted
  packed_counters_at replicas = made_at counts_of (packed_count_rows_at replicas)

-- ---- texts of rows with given numbers in place of their keys

abbrev pub numbers_count_text : CountRow → ℕ → List ℕ
numbers_count_text r number = (packed_text number ++ byte_text r.replica) ++ packed_counts_text r.p r.n

-- rows, each with one of the numbers
abbrev pub numbers_counts_text : List CountRow → List ℕ → List ℕ
numbers_counts_text [] numbers = []
numbers_counts_text (r ∷ rows) [] = []
numbers_counts_text (r ∷ rows) (n ∷ numbers) = numbers_count_text r n ++ numbers_counts_text rows numbers

-- the numbers of the keys of counters in a table
abbrev pub AreCountNumbersIn : List (List ℕ) → List CountRow → List ℕ → Type 0
AreCountNumbersIn table rows numbers = numbers ≡ each (table_number table) (counter_keys rows)

-- each number of a row is within the limit
abbrev pub IsWithin : CountRow → Type 0
IsWithin r = (r.p ≤ MAX_COUNT) × (r.n ≤ MAX_COUNT)

abbrev pub AreWithin : List CountRow → Type 0
AreWithin rows = AllByRecursion IsWithin rows
