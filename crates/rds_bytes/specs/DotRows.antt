-- A set of dots as rows: for each replica that has dots the greatest number, and the gaps below it.
use Rattle.std.specs.Prelude.{◌≡◌, ℕ, ◌+◌, ◌-◌, ◌<◌, ◌^◌, ◌==◌, nat_lt, if◌then◌else◌, List, [], ◌∷◌, length, Option, Some, None}
use Rattle.std.specs.List.{AllByRecursion}
use Rattle.rds_dots.specs.declared.dot.Dot.{Dot}
use Rattle.rds_dots.specs.declared.dot.Run.{Run}
use Rattle.rds_dots.specs.Dots.{Dots, IsRun, last_of}
use Rattle.rds_dots.specs.Runs.{runs_of}
use Rattle.rds_dots.specs.RunsAfter.{runs_left}
use Rattle.rds_bytes.specs.declared.dots.Gap.{Gap}
use Rattle.rds_bytes.specs.declared.dots.DotRow.{DotRow}

abbrev pub a_gap : ℕ → ℕ → Gap
a_gap lo hi = record { lo = lo; hi = hi }

-- the numbers from a least one on that come before a run are a gap
abbrev pub gap_before : ℕ → ℕ → List Gap → List Gap
gap_before least lo gaps = if nat_lt least lo then a_gap least (lo - 1) ∷ gaps else gaps

-- the gaps between the first runs, those of one replica
abbrev pub gaps_in : ℕ → ℕ → List Run → List Gap
gaps_in replica least [] = []
gaps_in replica least (r ∷ rs) =
    if r.replica == replica then gap_before least r.lo (gaps_in replica (r.hi + 1) rs) else []

-- where the last of the first runs ends, those of one replica
abbrev pub top_in : ℕ → ℕ → List Run → ℕ
top_in replica top [] = top
top_in replica top (r ∷ rs) = if r.replica == replica then top_in replica r.hi rs else top

-- the row that begins with a run
abbrev pub row_in : Run → List Run → DotRow
row_in r rs = record { replica = r.replica; top = top_in r.replica r.hi rs; gaps = gaps_in r.replica 1 (r ∷ rs) }

-- the rows of the replicas from a least one on; the first run of each begins its row
abbrev pub rows_from : ℕ → List Run → List DotRow
rows_from least [] = []
rows_from least (r ∷ rs) =
    if nat_lt r.replica least then rows_from least rs else (row_in r rs ∷ rows_from (r.replica + 1) rs)

-- the row that begins with a run of a set
abbrev pub row_of_run : Dots → Run → DotRow
row_of_run s r = row_in r (runs_left (Some (last_of r)) (runs_of s))

-- the last dot of a row
abbrev pub row_end : DotRow → Dot
row_end row = record { replica = row.replica; seq = row.top }

-- the gaps of each row can be counted in four bytes
abbrev pub CanCountAll : List DotRow → Type 0
CanCountAll rows = AllByRecursion (λ (r : DotRow). length r.gaps < 2 ^ 32) rows

-- the first of the runs that are left, if it is of the same replica
abbrev pub next_of : ℕ → List Run → Option Run
next_of replica [] = None
next_of replica (r ∷ rs) = if r.replica == replica then Some r else None

-- the run that comes next, of the same replica
pub record IsNext (s : Dots) (r next : Run) : Type 0 where
  pub is_run : IsRun next
  pub same : next.replica ≡ r.replica
  pub higher : r.hi < next.hi
  pub left : runs_left (Some (last_of r)) (runs_of s) ≡ next ∷ runs_left (Some (last_of next)) (runs_of s)

-- the next run of the same replica, or none
abbrev pub Follows : Dots → Run → Option Run → Type 0
Follows s r None = next_of r.replica (runs_left (Some (last_of r)) (runs_of s)) ≡ None
Follows s r (Some next) = IsNext s r next
