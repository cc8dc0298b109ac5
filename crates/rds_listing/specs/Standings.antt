-- The registers and sets of a view, one after the other: by their paths key by key, a register before a set.
use Rattle.std.specs.Prelude.{ℕ, Bool, List, [], ◌∷◌, ◌++◌, map, if◌then◌else◌}
use Rattle.std.specs.Ordering.{is_gt}
use Rattle.rds_names.specs.declared.entry.Kind.{Kind}
use Rattle.rds_names.specs.declared.entry.Kind.TheVariants.{Elem, Reg}
use Rattle.rds_names.specs.declared.scalar.Scalar.{Scalar}
use Rattle.rds_names.specs.Key.{key_cmp}
use Rattle.rds_tree.specs.Shown.{Shown, shows, ShownMaps, no_maps, a_map}

-- a register or a set: its path from the root, and its values
pub record StandingValue : Type 0 where
  pub path : List (List ℕ)
  pub kind : Kind
  pub values : List Scalar

-- what stands under a key below a path
abbrev pub stands : List (List ℕ) → Kind → List ℕ × List Scalar → StandingValue
stands above kind row = record { path = above ++ row.0 ∷ []; kind = kind; values = row.1 }

abbrev pub all_stand : List (List ℕ) → Kind → List (List ℕ × List Scalar) → List StandingValue
all_stand above kind rows = map (stands above kind) rows

-- whether a row's key comes after a key
abbrev pub is_past : List ℕ → List ℕ × List Scalar → Bool
is_past key row = is_gt (key_cmp row.0 key)

-- the rows before the first that is past a key
abbrev pub up_to : List ℕ → List (List ℕ × List Scalar) → List (List ℕ × List Scalar)
up_to key [] = []
up_to key (row ∷ rows) = if is_past key row then [] else row ∷ up_to key rows

-- the rows from that one on
abbrev pub past : List ℕ → List (List ℕ × List Scalar) → List (List ℕ × List Scalar)
past key [] = []
past key (row ∷ rows) = if is_past key row then row ∷ rows else past key rows

-- registers and sets below a path, in the order of their keys
abbrev pub values_stand : List (List ℕ) → List (List ℕ × List Scalar) → List (List ℕ × List Scalar) → List StandingValue
values_stand above regs [] = all_stand above Reg regs
values_stand above regs (row ∷ sets) =
    all_stand above Reg (up_to row.0 regs) ++ stands above Elem row ∷ values_stand above (past row.0 regs) sets

abbrev mutual
  -- those of a view, and of its maps, each map behind what stands under its key
  pub standings : List (List ℕ) → Shown → List StandingValue
  standings above (shows maps regs sets counters) = standings_beside above regs sets maps

  pub standings_beside : List (List ℕ) → List (List ℕ × List Scalar) → List (List ℕ × List Scalar) → ShownMaps
      → List StandingValue
  standings_beside above regs sets no_maps = values_stand above regs sets
  standings_beside above regs sets (a_map key shown maps) =
      values_stand above (up_to key regs) (up_to key sets)
      ++ (standings (above ++ key ∷ []) shown ++ standings_beside above (past key regs) (past key sets) maps)
