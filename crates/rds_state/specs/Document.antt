-- The document of a state: the entries that are live, and the counters with their values.
use Rattle.std.specs.Prelude.{◌≡◌, ℕ, ◌<◌, ℤ, List, Some}
use Rattle.rds_names.specs.declared.entry.Entry.{Entry}
use Rattle.rds_dots.specs.declared.dot.Dot.{Dot}
use Rattle.rds_counts.specs.declared.row.Which.{Which}
use Rattle.rds_counts.specs.Counted.{place}
use Rattle.rds_counts.specs.Value.{value_by}
use Rattle.rds_life.specs.Life.{Live}
use Rattle.rds_state.specs.Coordinates.{Coordinates}

-- the entry is live at some dot
abbrev pub IsShown : Coordinates → Entry → Type 0
IsShown a e = (d : Dot) × (a.life d ≡ Some (Live e))

-- some number of the key is above 0
abbrev pub IsCounted : Coordinates → List ℕ → Type 0
IsCounted a key = (replica : ℕ) × (which : Which) × (0 < a.number (place key replica which))

-- what the key's counter stands at
abbrev pub value_in : Coordinates → List ℕ → ℤ
value_in a = value_by a.number
