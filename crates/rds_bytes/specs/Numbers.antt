-- The numbers of keys, as they come.
use Rattle.std.specs.Prelude.{◌≡◌, ℕ, ◌+◌, ◌*◌, ◌^◌, ◌<◌, ◌≤◌, if◌then◌else◌, List, [], ◌∷◌, ◌++◌, length, take, drop, Option, Some, None}
use Rattle.std.specs.List.{flat_map, AllByRecursion}
use Rattle.std.specs.Int.{w32, to_be_bytes}
use Rattle.std.specs.Ordering.{nat_cmp, ordering_then}
use Rattle.std.specs.declared.cmp.Ordering.{Ordering}
use Rattle.std.specs.Cmp.Lexicographic.{slice_cmp}
use Rattle.rds_names.specs.declared.entry.Entry.{Entry}
use Rattle.rds_names.specs.Key.{key_cmp}
use Rattle.rds_dots.specs.declared.dot.Dot.{Dot}
use Rattle.rds_counts.specs.declared.row.CountRow.{CountRow}
use Rattle.rds_bytes.specs.Marks.{mark}
use Rattle.rds_bytes.specs.Spelling.{keyed_live_rows_text, byte_text, kind_byte, scalar_text, dot_text, counts_text}
use Rattle.rds_bytes.specs.Table.{has_key, add_key, table_number}
use Rattle.rds_bytes.specs.TableTexts.{number_text}
use Rattle.rds_bytes.specs.Values.{IsLiveRow}

-- the number of each key in the table as it is when the key comes
abbrev pub numbers_from : List (List ℕ) → List (List ℕ) → List ℕ
numbers_from table [] = []
numbers_from table (k ∷ keys) = table_number table k ∷ numbers_from (add_key table k) keys

-- the number of a key, where the table has it
abbrev pub place_in : List (List ℕ) → List ℕ → Option ℕ
place_in table key = if has_key table key then Some (table_number table key) else None

-- a key with its mark, against another with its own: by the marks, and by the keys where those are equal
abbrev pub marked_cmp : List ℕ → ℕ → List ℕ → Ordering
marked_cmp key m other = ordering_then (nat_cmp (mark key) m) (key_cmp key other)

-- ---- texts of rows with given numbers in place of their keys

abbrev pub numbers_text : List ℕ → List ℕ
numbers_text numbers = flat_map (to_be_bytes w32) numbers

abbrev pub numbered_row_text : Dot × Entry → List ℕ → List ℕ
numbered_row_text row numbers =
    dot_text row.0 ++ ((byte_text (length row.1.path) ++ numbers_text numbers) ++ (byte_text (kind_byte row.1.kind) ++ scalar_text row.1.value))

-- rows, each with as many of the numbers as it has keys
abbrev pub numbered_rows_text : List (Dot × Entry) → List ℕ → List ℕ
numbered_rows_text [] numbers = []
numbered_rows_text (row ∷ rows) numbers =
    numbered_row_text row (take (length row.1.path) numbers) ++ numbered_rows_text rows (drop (length row.1.path) numbers)

-- the length of live rows with numbers in place of their keys, whatever the table; and each is as a text may have it
pub record AreMeasured (n : ℕ) (rows : List (Dot × Entry)) : Type 0 where
  pub as_long : (table : List (List ℕ)) → n ≡ length (keyed_live_rows_text (number_text table) rows)
  pub most : n ≤ 4 + 2048 * length rows
  pub few : length rows < 2 ^ 64
  pub are_entries : AllByRecursion IsLiveRow rows

-- how many keys rows have
abbrev pub count_of_keys : List (Dot × Entry) → ℕ
count_of_keys [] = 0
count_of_keys (row ∷ rows) = length row.1.path + count_of_keys rows

-- rows of counters, each with one of the numbers
abbrev pub numbered_counts_text : List CountRow → List ℕ → List ℕ
numbered_counts_text [] numbers = []
numbered_counts_text (r ∷ rows) [] = []
numbered_counts_text (r ∷ rows) (n ∷ numbers) = ((to_be_bytes w32 n ++ byte_text r.replica) ++ counts_text r.p r.n) ++ numbered_counts_text rows numbers

-- the length of rows with numbers in place of their keys
abbrev pub numbered_length : List (Dot × Entry) → ℕ
numbered_length [] = 0
numbered_length (row ∷ rows) = (11 + 4 * length row.1.path + length (scalar_text row.1.value)) + numbered_length rows
