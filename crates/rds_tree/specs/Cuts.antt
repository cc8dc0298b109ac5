-- What is taken out of a tree at the end of a path, or below it.
use Rattle.std.specs.Prelude.{◌≡◌, ℕ, Bool, true, false, not, ◌&&◌, ◌||◌, List, [], ◌∷◌, Option, Some, None}
use Rattle.std.specs.List.{list_any}
use Rattle.std.specs.Ordering.{is_eq, eq_by_cmp}
use Rattle.rds_names.specs.declared.entry.Entry.{Entry}
use Rattle.rds_names.specs.declared.entry.Kind.{Kind}
use Rattle.rds_names.specs.declared.scalar.Scalar.{Scalar}
use Rattle.rds_dots.specs.declared.dot.Dot.{Dot}
use Rattle.rds_dots.specs.Dots.{dot_cmp}
use Rattle.rds_life.specs.Killed.{is_same}
use Rattle.rds_state.specs.declared.command.Command.{Command}
use Rattle.rds_state.specs.declared.command.Command.TheVariants.{Set, Add, Del, Clear, Inc, Dec}
use Rattle.rds_state.specs.Edit.{is_reg, same_scalar}
use Rattle.rds_tree.specs.declared.leaf.Leaf.{Leaf}
use Rattle.rds_names.specs.Key.{key_cmp}
use Rattle.rds_tree.specs.Held.{at_value}
use Rattle.rds_tree.specs.Row.{Row}
use Rattle.rds_tree.specs.View.{is_that_kind}

-- whether the command covers a leaf at the end of its path
abbrev pub covered_leaf : Command → Leaf → Bool
covered_leaf (Set p v) l = is_reg l.kind
covered_leaf (Add p v) l = not (is_reg l.kind) && same_scalar l.value v
covered_leaf (Del p v) l = not (is_reg l.kind) && same_scalar l.value v
covered_leaf (Clear p) l = true
covered_leaf (Inc k by) l = false
covered_leaf (Dec k by) l = false

-- the same, but for a dot that is to stay
abbrev pub covering : Command → Option Dot → Leaf → Bool
covering c None l = covered_leaf c l
covering c (Some stays) l = not (is_same stays l.dot) && covered_leaf c l

-- whether it is the leaf of a kind, a value and a dot
abbrev pub is_leaf : Kind → Scalar → Dot → Leaf → Bool
is_leaf kind value dot l = is_that_kind kind l.kind && (at_value value l.value && is_same dot l.dot)

-- the new leaves are the old ones that aren't picked
pub record IsLess (picks : Leaf → Bool) (old new : List Leaf) : Type 0 where
  pub any : (t : Leaf → Bool) → list_any t new ≡ list_any (λ l. t l && not (picks l)) old

-- whether it covers all that stands further below
abbrev pub is_deep : Command → Bool
is_deep (Set p v) = false
is_deep (Add p v) = false
is_deep (Del p v) = false
is_deep (Clear p) = true
is_deep (Inc k by) = false
is_deep (Dec k by) = false

-- the path of the entries that it covers, or of what they stand below
abbrev pub path_covered : Command → List (List ℕ)
path_covered (Set p v) = p
path_covered (Add p v) = p
path_covered (Del p v) = p
path_covered (Clear p) = p
path_covered (Inc k by) = []
path_covered (Dec k by) = []

-- whether a leaf at the second path is at the first and picked, or is below the first and all there goes
abbrev pub goes : (Leaf → Bool) → Bool → List (List ℕ) → List (List ℕ) → Leaf → Bool
goes picks deep [] [] l = deep || picks l
goes picks deep [] (x ∷ q) l = deep
goes picks deep (k ∷ p) [] l = false
goes picks deep (k ∷ p) (x ∷ q) l = is_eq (key_cmp k x) && goes picks deep p q l

-- the new rows are the old ones that don't go
pub record IsCut (picks : Leaf → Bool) (deep : Bool) (path : List (List ℕ)) (old new : List Row) : Type 0 where
  pub any : (t : Row → Bool) → list_any t new ≡ list_any (λ r. t r && not (goes picks deep path r.path r.leaf)) old

-- the dot has a row that goes
abbrev pub found_at : (Leaf → Bool) → Bool → List (List ℕ) → List Row → Dot → Entry → Bool
found_at picks deep path rows d e = list_any (λ r. goes picks deep path r.path r.leaf && eq_by_cmp dot_cmp r.leaf.dot d) rows

-- the dot has a row
abbrev pub among : List Row → Dot → Entry → Bool
among rows d e = list_any (λ r. eq_by_cmp dot_cmp r.leaf.dot d) rows

-- the dot has a row of one of the trees
abbrev pub among_each : List (List Row) → Dot → Entry → Bool
among_each trees d e = list_any (λ rows. among rows d e) trees

-- the dot has a leaf that is picked
abbrev pub among_leaves : (Leaf → Bool) → List Leaf → Dot → Entry → Bool
among_leaves picks leaves d e = list_any (λ l. picks l && eq_by_cmp dot_cmp l.dot d) leaves

-- the command raises a number
abbrev pub IsRaise : Command → Type 0
IsRaise (Inc k by) = Unit {0}
IsRaise (Dec k by) = Unit {0}
IsRaise c = ⊥
