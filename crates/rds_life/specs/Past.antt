-- Rows from a dot on, and past it.
use Rattle.std.specs.Prelude.{List, [], ◌∷◌, Option, Some, None}
use Rattle.std.specs.List.{filter}
use Rattle.std.specs.Ordering.{is_le}
use Rattle.rds_dots.specs.declared.dot.Dot.{Dot}
use Rattle.rds_dots.specs.Dots.{dot_cmp}
use Rattle.rds_dots.specs.Ascending.{is_above}

module _ {X : Type 0} where
  -- the rows whose dots come after the given one
  abbrev pub rows_past : Dot → List (Dot × X) → List (Dot × X)
  rows_past d rows = filter (λ r. is_above d r.0) rows

  -- the rows of the dot and of those after it
  abbrev pub rows_from : Dot → List (Dot × X) → List (Dot × X)
  rows_from d rows = filter (λ r. is_le (dot_cmp d r.0)) rows

  -- the rows past the dot, or all where there is none
  abbrev pub rows_behind : Option Dot → List (Dot × X) → List (Dot × X)
  rows_behind None rows = rows
  rows_behind (Some d) rows = rows_past d rows

  -- the first row
  abbrev pub first_row : List (Dot × X) → Option (Dot × X)
  first_row [] = None
  first_row (r ∷ rows) = Some r
