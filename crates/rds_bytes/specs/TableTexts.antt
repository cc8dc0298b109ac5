-- The text of a table and those of the numbers of its keys, and how they are read.
use Rattle.std.specs.Prelude.{ℕ, List, ◌++◌, length, slice_get}
use Rattle.std.specs.List.{flat_map}
use Rattle.std.specs.Int.{w32, to_be_bytes}
use Rattle.rds_bytes.specs.Spelling.{short_text}
use Rattle.rds_bytes.specs.Reading.{Reader, drawn_at, when_at, list_at, number_at, is_new, key_at}
use Rattle.rds_bytes.specs.Table.{table_number}

-- the keys of a table, after their number
unfoldable pub table_text : List (List ℕ) → List ℕ
table_text table = to_be_bytes w32 (length table) ++ flat_map short_text table

-- the number of a key in a table
abbrev pub number_text : List (List ℕ) → List ℕ → List ℕ
number_text table key = to_be_bytes w32 (table_number table key)

-- a key that none before it equals
unfoldable pub new_key_at : List (List ℕ) → Reader (List ℕ)
new_key_at before = when_at (is_new before) key_at

unfoldable pub table_at : Reader (List (List ℕ))
table_at = list_at (number_at w32) new_key_at

-- the key of the table whose number it is
unfoldable pub numbered_at : List (List ℕ) → Reader (List ℕ)
numbered_at table = drawn_at (slice_get table) (number_at w32)
