-- Rows whose keys are numbers of a table.
use Rattle.std.specs.Prelude.{ℕ, Bool, List, [], ◌∷◌, ◌++◌, Option, Some, fold}
use Rattle.std.specs.Coded.{Coded, coded×, coded_ℕ, coded_list}
use Rattle.rds_life.specs.Code.{coded_lives}
use Rattle.rds_life.specs.Life.{Lived, live_rows}
use Rattle.rds_counts.specs.Counted.{Counted, coded_counts}
use Rattle.rds_counts.specs.RowsOf.{count_rows}
use Rattle.rds_bytes.specs.Table.{after_key, used_keys, is_tabled}

-- how many keys of a table have been met after these, or none of it where one was met out of turn
abbrev pub met_of : List (List ℕ) → List (List ℕ) → Option ℕ
met_of table keys = fold (after_key table) (Some 0) keys

-- a row, and what is met after it
abbrev pub with_met : {A : Type 0} → (List A → Option ℕ) → List A → A → A × Option ℕ
with_met met_by before row = (row, met_by (before ++ row ∷ []))

-- a table, and lives by its numbers
abbrev pub TabledLives : Type 0
TabledLives = List (List ℕ) × Lived

-- a table, and lives and counters by its numbers
abbrev pub TabledParts : Type 0
TabledParts = List (List ℕ) × (Lived × Counted)

-- the keys of live rows, and then those of rows of counters
abbrev pub keys_of : Lived × Counted → List (List ℕ)
keys_of p = used_keys (live_rows p.0) (count_rows p.1)

-- whether the table has exactly the keys of its parts, in the order of first use
abbrev pub has_own_table : TabledParts → Bool
has_own_table p = is_tabled p.0 (keys_of p.1)

abbrev coded_keys : Coded (List (List ℕ))
coded_keys = coded_list (coded_list coded_ℕ)

abbrev pub coded_tabled_lives : Coded TabledLives
coded_tabled_lives = coded× coded_keys coded_lives

abbrev pub coded_tabled_parts : Coded TabledParts
coded_tabled_parts = coded× coded_keys (coded× coded_lives coded_counts)
