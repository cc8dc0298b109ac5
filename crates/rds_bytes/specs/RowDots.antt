-- The dots that rows stand for.
use Rattle.std.specs.Prelude.{ℕ, ◌+◌, ◌-◌, nat_lt, if◌then◌else◌, List, [], ◌∷◌, Option, Some, None}
use Rattle.std.specs.List.{flat_map}
use Rattle.std.specs.FinSet as set
use Rattle.rds_dots.specs.declared.dot.Run.{Run}
use Rattle.rds_dots.specs.Dots.{Dots}
use Rattle.rds_dots.specs.Listed.{dots_of}
use Rattle.rds_bytes.specs.declared.dots.Gap.{Gap}
use Rattle.rds_bytes.specs.declared.dots.DotRow.{DotRow}

-- the first number after a gap
abbrev pub first_after_gap : Option Gap → ℕ
first_after_gap None = 1
first_after_gap (Some g) = g.hi + 1

-- the dots of a replica from a least one on, before a gap
abbrev pub run_before : ℕ → ℕ → ℕ → List Run → List Run
run_before replica least lo rs =
    if nat_lt least lo then record { replica = replica; lo = least; hi = lo - 1 } ∷ rs else rs

-- the runs between gaps, and the last one, which ends at the top
abbrev pub runs_between : ℕ → ℕ → ℕ → List Gap → List Run
runs_between replica least top [] = record { replica = replica; lo = least; hi = top } ∷ []
runs_between replica least top (g ∷ gs) = run_before replica least g.lo (runs_between replica (g.hi + 1) top gs)

abbrev pub row_runs : DotRow → List Run
row_runs row = runs_between row.replica 1 row.top row.gaps

-- the set that has the dots of all runs
unfoldable pub dots_of_runs : List Run → Dots
dots_of_runs rs = set.from_list (flat_map dots_of rs)

abbrev pub dots_of_rows : List DotRow → Dots
dots_of_rows rows = dots_of_runs (flat_map row_runs rows)
