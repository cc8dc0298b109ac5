-- A set of dots as rows, in its own words: for each replica that has dots, the numbers from 1 to a top without the gaps.
use Rattle.std.specs.Prelude.{◌≡◌, ℕ, ◌+◌, ◌≤◌, ◌<◌, Bool, not, ◌&&◌, ◌==◌, nat_le, List, [], ◌∷◌}
use Rattle.std.specs.List.{list_any}
use Rattle.std.specs.FinSet as set
use Rattle.rds_dots.specs.declared.dot.Dot.{Dot}
use Rattle.rds_dots.specs.declared.dot.TheConstants.{MAX_SEQ}
use Rattle.rds_dots.specs.Dots.{Dots}
use Rattle.rds_bytes.specs.declared.dots.Gap.{Gap}
use Rattle.rds_bytes.specs.declared.dots.DotRow.{DotRow}
use Rattle.rds_bytes.specs.Spelling.{dots_text, dot_rows_text}

-- ---- rows in order

-- gaps in order from a least number on, below the top, with a dot between any two
abbrev pub GapsStand : ℕ → ℕ → List Gap → Type 0
GapsStand least top [] = Unit {0}
GapsStand least top (g ∷ gs) = ((least ≤ g.lo) × ((g.lo ≤ g.hi) × (g.hi < top))) × GapsStand (g.hi + 2) top gs

-- a row of one of so many replicas, with a top that is a number of a dot
abbrev pub RowStands : ℕ → DotRow → Type 0
RowStands replicas r = (r.replica < replicas) × ((1 ≤ r.top) × ((r.top ≤ MAX_SEQ) × GapsStand 1 r.top r.gaps))

-- rows in the order of their replicas, from a least one on
abbrev pub RowsStand : ℕ → ℕ → List DotRow → Type 0
RowsStand replicas least [] = Unit {0}
RowsStand replicas least (r ∷ rs) = ((least ≤ r.replica) × RowStands replicas r) × RowsStand replicas (r.replica + 1) rs

-- ---- the dots that they have

-- whether the number is in the gap
abbrev pub in_gap : ℕ → Gap → Bool
in_gap n g = nat_le g.lo n && nat_le n g.hi

-- whether the row has the dot: its number is one from 1 to the top, and in no gap
abbrev pub has_dot : Dot → DotRow → Bool
has_dot d r = (d.replica == r.replica) && nat_le 1 d.seq && nat_le d.seq r.top && not (list_any (in_gap d.seq) r.gaps)

-- the rows are in order, and have the set's dots and no others
pub record AreRowsOf (s : Dots) (rows : List DotRow) : Type 0 where
  pub stand : RowsStand 256 0 rows
  pub same : (d : Dot) → list_any (has_dot d) rows ≡ set.contains s d

-- the set has such rows, and its text is theirs
pub record IsSpelledByRows (s : Dots) : Type 0 where
  pub rows : List DotRow
  pub are_rows : AreRowsOf s rows
  pub spelled : dots_text s ≡ dot_rows_text rows
