-- What a delta changes in a tree of live dots.
use Rattle.std.specs.Prelude.{◌≡◌, Bool, true, false, not, ◌&&◌, ◌||◌, List, filter, Option, Some, None}
use Rattle.std.specs.List.{list_any}
use Rattle.std.specs.FinMap as map
use Rattle.rds_names.specs.declared.entry.Entry.{Entry}
use Rattle.rds_dots.specs.declared.dot.Dot.{Dot}
use Rattle.rds_life.specs.Life.{Life, Lived, is_dead}
use Rattle.rds_tree.specs.Cuts.{goes, is_leaf}
use Rattle.rds_tree.specs.Growing.{tree_row}
use Rattle.rds_tree.specs.Row.{Row}

-- whether a dot is unseen
abbrev pub is_unseen : Option Life → Bool
is_unseen None = true
is_unseen (Some l) = false

-- the rows of dots that are dead elsewhere
abbrev pub rows_dead : Lived → List (Dot × Entry) → List (Dot × Entry)
rows_dead v rows = filter (λ r. is_dead (map.get v r.0)) rows

-- the rows of dots that are unseen elsewhere
abbrev pub rows_unseen : Lived → List (Dot × Entry) → List (Dot × Entry)
rows_unseen v rows = filter (λ r. is_unseen (map.get v r.0)) rows

-- the row of a tree is that of a live dot
abbrev pub is_row_of : Dot × Entry → Row → Bool
is_row_of r row = goes (is_leaf r.1.kind r.1.value r.0) false r.1.path row.path row.leaf

-- it is that of one of them
abbrev pub is_one_of : List (Dot × Entry) → Row → Bool
is_one_of rows row = list_any (λ r. is_row_of r row) rows

-- the new tree has the old one's rows and these
pub record IsWith (rows : List (Dot × Entry)) (old new : List Row) : Type 0 where
  pub any : (t : Row → Bool) → list_any t new ≡ (list_any (λ r. t (tree_row r)) rows || list_any t old)

-- the new tree has the old one's rows but these
pub record IsWithout (rows : List (Dot × Entry)) (old new : List Row) : Type 0 where
  pub any : (t : Row → Bool) → list_any t new ≡ list_any (λ row. t row && not (is_one_of rows row)) old

-- but for these the two trees have the same rows
pub record AreSameBut (rows : List (Dot × Entry)) (old new : List Row) : Type 0 where
  pub any : (t : Row → Bool) → list_any (λ row. t row && not (is_one_of rows row)) new ≡ list_any (λ row. t row && not (is_one_of rows row)) old
