-- The table of keys: each that is used, once, in the order of first use.
use Rattle.std.specs.Prelude.{◌≡◌, ℕ, Bool, true, ◌+◌, ◌==◌, nat_lt, List, [], ◌∷◌, ◌++◌, Option, Some, None, if◌then◌else◌, fold, map as each}
use Rattle.std.specs.List.{list_any, list_all, flat_map, position_or_len, AllByRecursion}
use Rattle.std.specs.Str.{bytes_eq}
use Rattle.std.specs.Cmp.Lexicographic.{pointwise}
use Rattle.rds_names.specs.Roster.{all_differ}
use Rattle.rds_names.specs.declared.entry.Entry.{Entry}
use Rattle.rds_dots.specs.declared.dot.Dot.{Dot}
use Rattle.rds_counts.specs.declared.row.CountRow.{CountRow}
use Rattle.rds_bytes.specs.Values.{is_key_text}

-- ---- keys, each once

abbrev pub has_key : List (List ℕ) → List ℕ → Bool
has_key table key = list_any (bytes_eq key) table

-- each key is one of the table
abbrev pub AreIn : List (List ℕ) → List (List ℕ) → Type 0
AreIn table keys = AllByRecursion (λ k. has_key table k ≡ true) keys

-- a key goes last where the table lacks it
abbrev pub add_key : List (List ℕ) → List ℕ → List (List ℕ)
add_key table key = if has_key table key then table else table ++ key ∷ []

-- the keys, each once, in the order in which they are first met
unfoldable pub table_of : List (List ℕ) → List (List ℕ)
table_of keys = fold add_key [] keys

-- where a key stands in the table, from 0
abbrev pub table_number : List (List ℕ) → List ℕ → ℕ
table_number table key = position_or_len (bytes_eq key) table

-- keys, no two of which are equal
pub record IsTable (table : List (List ℕ)) : Type 0 where
  pub texts : list_all is_key_text table ≡ true
  pub differ : all_differ table ≡ true

-- ---- the keys that rows use

-- those of live rows, each path from its first key to its last
abbrev pub live_keys : List (Dot × Entry) → List (List ℕ)
live_keys rows = flat_map (λ row. row.1.path) rows

abbrev pub counter_keys : List CountRow → List (List ℕ)
counter_keys counts = each (λ r. r.key) counts

-- those of live rows, and then those of rows of counters
abbrev pub used_keys : List (Dot × Entry) → List CountRow → List (List ℕ)
used_keys rows counts = live_keys rows ++ counter_keys counts

-- the table of the keys that rows use
abbrev pub rows_table : List (Dot × Entry) → List CountRow → List (List ℕ)
rows_table rows counts = table_of (used_keys rows counts)

-- whether a table has exactly these keys, in the order of first use
abbrev pub is_tabled : List (List ℕ) → List (List ℕ) → Bool
is_tabled table keys = pointwise bytes_eq (table_of keys) table

-- ---- keys that are met in turn

-- how many keys of a table have been met so far, or none of it where one was met out of turn
abbrev pub after_number : Option ℕ → ℕ → Option ℕ
after_number None n = None
after_number (Some met) n = if nat_lt met n then None else (if n == met then Some (met + 1) else Some met)

-- the same, after the key
abbrev pub after_key : List (List ℕ) → Option ℕ → List ℕ → Option ℕ
after_key table met key = after_number met (table_number table key)
