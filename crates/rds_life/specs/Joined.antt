-- The rows of two lives, drawn into those of their join.
use Rattle.std.specs.Prelude.{Bool, not, cond, List, [], ◌∷◌}
use Rattle.std.specs.FinMap.Entries.{by_order}
use Rattle.rds_dots.specs.declared.dot.Dot.{Dot}
use Rattle.rds_dots.specs.Dots.{dot_cmp}

module _ {X : Type 0} where
  -- the row, if it stays, and the rest
  abbrev pub row_if : Bool → Dot × X → List (Dot × X) → List (Dot × X)
  row_if stays row rows = cond stays (row ∷ rows) rows

  -- the rows of dots that aren't in the set
  abbrev pub outside : (Dot → Bool) → List (Dot × X) → List (Dot × X)
  outside has [] = []
  outside has (y ∷ ys) = row_if (not (has y.0)) y (outside has ys)

module _ {X : Type 0} (left_has right_has : Dot → Bool) where
  abbrev pub joined_onto : Dot × X → (List (Dot × X) → List (Dot × X)) → List (Dot × X) → List (Dot × X)
  joined_onto x rest [] = row_if (not (right_has x.0)) x (rest [])
  joined_onto x rest (y ∷ ys) =
      by_order (dot_cmp x.0 y.0) (row_if (not (right_has x.0)) x (rest (y ∷ ys))) (x ∷ rest ys) (row_if (not (left_has y.0)) y (joined_onto x rest ys))

  -- a row that both have stays; any other stays where the other side hasn't seen its dot
  abbrev pub rows_of_join : List (Dot × X) → List (Dot × X) → List (Dot × X)
  rows_of_join [] ys = outside left_has ys
  rows_of_join (x ∷ xs) ys = joined_onto x (rows_of_join xs) ys
