-- The rows of a tree: live dots with what is left of their paths.
use Rattle.std.specs.Prelude.{◌≡◌, ℕ, ◌+◌, suc, Bool, true, false, ◌&&◌, ◌||◌, List, [], ◌∷◌, ◌++◌, length, map}
use Rattle.std.specs.List.{list_any}
use Rattle.rds_tree.specs.declared.leaf.Leaf.{Leaf}
use Rattle.rds_tree.specs.Document.{Placed}

-- a live dot, and the keys that lead to it
pub record Row : Type 0 where
  pub path : List (List ℕ)
  pub leaf : Leaf

abbrev pub under : List ℕ → Row → Row
under k r = record { path = k ∷ r.path; leaf = r.leaf }

abbrev pub at_end : Leaf → Row
at_end l = record { path = []; leaf = l }

-- the rows below each key, one key after the other
abbrev pub rows_in_children : List (List ℕ × List Row) → List Row
rows_in_children [] = []
rows_in_children (c ∷ cs) = map (under c.0) c.1 ++ rows_in_children cs

-- those that stand here, and those below
abbrev pub rows_in_node : List Leaf → List (List ℕ × List Row) → List Row
rows_in_node leaves children = map at_end leaves ++ rows_in_children children

abbrev pub is_filled : {X : Type 0} → List X → Bool
is_filled [] = false
is_filled (x ∷ xs) = true

-- no key is without members
abbrev pub are_full : {K X : Type 0} → List (K × List X) → Bool
are_full [] = true
are_full (c ∷ cs) = is_filled c.1 && are_full cs

-- how long the paths are, taken together
abbrev pub weight : List Row → ℕ
weight [] = 0
weight (r ∷ rows) = suc (length r.path) + weight rows

-- the row without its dot
abbrev pub placement : Row → Placed
placement r = record { path = r.path; kind = r.leaf.kind; value = r.leaf.value }

abbrev pub placed_all : List Row → List Placed
placed_all rows = map placement rows

-- each child with what stands there, without dots
abbrev pub placed_below : List (List ℕ × List Row) → List (List ℕ × List Placed)
placed_below cs = map (λ c. (c.0, placed_all c.1)) cs

abbrev pub leaf_row : List (List ℕ) → Leaf → Row
leaf_row path leaf = record { path = path; leaf = leaf }

-- the new rows are the old ones and this one
pub record AddsRow (old : List Row) (row : Row) (new : List Row) : Type 0 where
  pub any : (t : Row → Bool) → list_any t new ≡ (t row || list_any t old)

-- the new leaves are the old ones and this one
pub record AddsLeaf (old : List Leaf) (leaf : Leaf) (new : List Leaf) : Type 0 where
  pub any : (t : Leaf → Bool) → list_any t new ≡ (t leaf || list_any t old)
