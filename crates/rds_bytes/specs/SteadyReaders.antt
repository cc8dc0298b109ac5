-- Which readers of parts are steady.
use Rattle.std.specs.Prelude.{ℕ, List, Option}
use Rattle.rds_names.specs.declared.entry.Entry.{Entry}
use Rattle.rds_dots.specs.declared.dot.Dot.{Dot}
use Rattle.rds_dots.specs.Dots.{Dots}
use Rattle.rds_counts.specs.declared.row.CountRow.{CountRow}
use Rattle.rds_bytes.specs.declared.dots.DotRow.{DotRow}
use Rattle.rds_bytes.specs.declared.dots.Gap.{Gap}
use Rattle.rds_bytes.specs.Reading.{key_at, name_at, roster_at, member_at, header_at, replica_at, gap_at, row_head_at, dot_row_at, dots_at, scalar_at, entry_at, live_row_at, live_rows_at, count_row_at, counters_at}
use Rattle.rds_bytes.specs.Steady.{IsSteady}

-- those of keys, and of what stands before the dots
pub record NamesAreSteady : Type 0 where
  pub key : IsSteady key_at
  pub name : IsSteady name_at
  pub roster : IsSteady roster_at
  pub member : IsSteady member_at
  pub header : IsSteady header_at
  pub replica : (replicas : ℕ) → IsSteady (replica_at replicas)

-- those of a set of dots
pub record DotsAreSteady : Type 0 where
  pub gap : (top : ℕ) (before : Option Gap) → IsSteady (gap_at top before)
  pub row_head : (replicas least : ℕ) → IsSteady (row_head_at replicas least)
  pub dot_row : (replicas : ℕ) (before : List DotRow) → IsSteady (dot_row_at replicas before)
  pub dots : (replicas : ℕ) → IsSteady (dots_at replicas)

-- those of live rows
pub record EntriesAreSteady : Type 0 where
  pub scalar : IsSteady scalar_at
  pub entry : IsSteady entry_at
  pub live_row : (seen : Dots) (before : List (Dot × Entry)) → IsSteady (live_row_at seen before)
  pub live_rows : (seen : Dots) → IsSteady (live_rows_at seen)

-- those of counters
pub record CountersAreSteady : Type 0 where
  pub count_row : (replicas : ℕ) (before : List CountRow) → IsSteady (count_row_at replicas before)
  pub counters : (replicas : ℕ) → IsSteady (counters_at replicas)
