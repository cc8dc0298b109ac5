-- What stands in a view, and which live entries it stands for.
use Rattle.std.specs.Prelude.{◌≡◌, ◌↔◌, ◌++◌, ◌≤◌, length, ℕ, ℤ, Bool, ◌&&◌, List, [], ◌∷◌, map, Option, Some, None}
use Rattle.std.specs.Prelude.{if◌then◌else◌}
use Rattle.std.specs.List.{list_any, AllByRecursion}
use Rattle.std.specs.List.Sorted.{IsStrictlySortedBy}
use Rattle.std.specs.Ordering.{eq_by_cmp}
use Rattle.rds_names.specs.declared.scalar.Scalar.{Scalar}
use Rattle.rds_names.specs.declared.entry.Entry.{Entry}
use Rattle.rds_names.specs.declared.entry.Kind.{Kind}
use Rattle.rds_names.specs.Entry.{HasParts}
use Rattle.rds_state.specs.Document.{IsCounted, IsShown, value_in}
use Rattle.rds_state.specs.Value.{StateValue, coordinates}
use Rattle.rds_names.specs.Key.{key_cmp}
use Rattle.rds_names.specs.Orders.{scalar_cmp}
use Rattle.rds_tree.specs.Shown.{Shown, shows, ShownMaps, no_maps, a_map}
use Rattle.rds_tree.specs.View.{same_key}

abbrev pub maps_in : Shown → ShownMaps
maps_in (shows maps regs sets counters) = maps

abbrev pub regs_in : Shown → List (List ℕ × List Scalar)
regs_in (shows maps regs sets counters) = regs

abbrev pub sets_in : Shown → List (List ℕ × List Scalar)
sets_in (shows maps regs sets counters) = sets

abbrev pub counters_in : Shown → Option (List (List ℕ × ℤ))
counters_in (shows maps regs sets counters) = counters

-- whether the value stands under the key
abbrev pub shows_value : List (List ℕ × List Scalar) → List ℕ → Scalar → Bool
shows_value rows key value = list_any (λ r. same_key key r.0 && list_any (eq_by_cmp scalar_cmp value) r.1) rows

-- what the maps have under a key
abbrev pub map_at : ShownMaps → List ℕ → Option Shown
map_at no_maps key = None
map_at (a_map k v maps) key = if same_key key k then Some v else map_at maps key

-- what a counter stands at
abbrev pub sum_at : List (List ℕ × ℤ) → List ℕ → Option ℤ
sum_at [] key = None
sum_at (r ∷ rows) key = if same_key key r.0 then Some r.1 else sum_at rows key

abbrev pub map_keys : ShownMaps → List (List ℕ)
map_keys no_maps = []
map_keys (a_map k v maps) = k ∷ map_keys maps

-- the keys ascend, and each has values, which ascend
pub record Ascend (rows : List (List ℕ × List Scalar)) : Type 0 where
  pub keys : IsStrictlySortedBy key_cmp (map (λ r. r.0) rows)
  pub some : AllByRecursion (λ r. 1 ≤ length r.1) rows
  pub values : AllByRecursion (λ r. IsStrictlySortedBy scalar_cmp r.1) rows

abbrev pub SumsAscend : Option (List (List ℕ × ℤ)) → Type 0
SumsAscend None = Unit {0}
SumsAscend (Some rows) = IsStrictlySortedBy key_cmp (map (λ r. r.0) rows)

-- all stands in ascending order, each once
pub record IsInOrder (shown : Shown) : Type 0 where
  pub maps : IsStrictlySortedBy key_cmp (map_keys (maps_in shown))
  pub regs : Ascend (regs_in shown)
  pub sets : Ascend (sets_in shown)
  pub counters : SumsAscend (counters_in shown)

-- the value is live at the path, as a register's value or as a set's element
abbrev pub IsLiveAt : StateValue → List (List ℕ) → Kind → Scalar → Type 0
IsLiveAt v path kind value = (e : Entry) × (IsShown (coordinates v) e × HasParts path kind value e)

-- something is live further below the path
abbrev pub IsLiveBelow : StateValue → List (List ℕ) → Type 0
IsLiveBelow v path = (e : Entry) × (IsShown (coordinates v) e × ((key : List ℕ) × ((rest : List (List ℕ)) × (e.path ≡ path ++ key ∷ rest))))

-- the keys of which some number is above 0, each with its sum
abbrev pub HasSums : StateValue → Option (List (List ℕ × ℤ)) → Type 0
HasSums v None = ⊥
HasSums v (Some rows) = (key : List ℕ) (sum : ℤ) → (sum_at rows key ≡ Some sum) ↔ (IsCounted (coordinates v) key × (sum ≡ value_in (coordinates v) key))
