-- Rows and counters whose keys are all of a table.
use Rattle.std.specs.Prelude.{◌≡◌, ℕ, ◌<◌, ◌^◌, true, List, length}
use Rattle.std.specs.List.{AllByRecursion}
use Rattle.rds_names.specs.declared.entry.Entry.{Entry}
use Rattle.rds_dots.specs.declared.dot.Dot.{Dot}
use Rattle.rds_dots.specs.Dots.{Dots}
use Rattle.rds_life.specs.Life.{AreRows}
use Rattle.rds_counts.specs.Counted.{Counted}
use Rattle.rds_counts.specs.RowsOf.{count_rows}
use Rattle.rds_bytes.specs.Table.{has_key, IsTable}
use Rattle.rds_bytes.specs.Values.{IsLiveRow, HasKeys, HasKey, AreCountsOf}

-- no more than a number of four bytes says
abbrev pub CanCount : {A : Type 0} → List A → Type 0
CanCount xs = length xs < 2 ^ 32

abbrev pub IsShortTable : List (List ℕ) → Type 0
IsShortTable table = CanCount table × IsTable table

abbrev pub IsKeyOf : List (List ℕ) → List ℕ → Type 0
IsKeyOf table key = has_key table key ≡ true

-- rows of seen dots in order, whose keys are of the table
pub record AreTabledRows (table : List (List ℕ)) (seen : Dots) (rows : List (Dot × Entry)) : Type 0 where
  pub few : CanCount rows
  pub are_rows : AreRows seen rows
  pub each_row : AllByRecursion IsLiveRow rows
  pub keys : AllByRecursion (HasKeys (IsKeyOf table)) rows

-- counters of so many replicas, whose keys are of the table
pub record AreTabledCounts (table : List (List ℕ)) (replicas : ℕ) (m : Counted) : Type 0 where
  pub few : CanCount (count_rows m)
  pub are_counts : AreCountsOf replicas m
  pub keys : AllByRecursion (HasKey (IsKeyOf table)) (count_rows m)
