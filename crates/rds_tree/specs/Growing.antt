-- The rows of a tree that is made of live dots.
use Rattle.std.specs.Prelude.{◌≡◌, ℕ, Bool, List, filter}
use Rattle.std.specs.List.{list_any, starts_with}
use Rattle.std.specs.Str.{bytes_eq}
use Rattle.rds_names.specs.declared.entry.Entry.{Entry}
use Rattle.rds_dots.specs.declared.dot.Dot.{Dot}
use Rattle.rds_tree.specs.Row.{Row}

-- a live dot as a row of a tree
abbrev pub tree_row : Dot × Entry → Row
tree_row r = record { path = r.1.path; leaf = record { kind = r.1.kind; value = r.1.value; dot = r.0 } }

-- the live dots at a path or below it
abbrev pub rows_under : List (List ℕ) → List (Dot × Entry) → List (Dot × Entry)
rows_under path rows = filter (λ r. starts_with bytes_eq r.1.path path) rows

-- the tree has the rows and no others
pub record Holds (rows : List (Dot × Entry)) (tree : List Row) : Type 0 where
  pub any : (t : Row → Bool) → list_any t tree ≡ list_any (λ r. t (tree_row r)) rows
