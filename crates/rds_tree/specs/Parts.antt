-- Parts of what a view shows: what stands under one key, and what stands at its path alone.
use Rattle.std.specs.Prelude.{ℕ, List, [], None, filter, if◌then◌else◌}
use Rattle.std.specs.Option.{option_map}
use Rattle.rds_tree.specs.Shown.{Shown, shows, ShownMaps, no_maps, a_map}
use Rattle.rds_tree.specs.View.{same_key}

-- the rows of one key
abbrev pub only_rows : {X : Type 0} → List ℕ → List (List ℕ × X) → List (List ℕ × X)
only_rows key rows = filter (λ r. same_key key r.0) rows

abbrev pub only_maps : List ℕ → ShownMaps → ShownMaps
only_maps key no_maps = no_maps
only_maps key (a_map k v maps) = if same_key key k then a_map k v (only_maps key maps) else only_maps key maps

-- of maps, registers, sets and counters what stands under one key
abbrev pub only_key : List ℕ → Shown → Shown
only_key key (shows maps regs sets counters) =
    shows (only_maps key maps) (only_rows key regs) (only_rows key sets) (option_map (only_rows key) counters)

-- the same maps, each of which shows nothing
abbrev pub closed_maps : ShownMaps → ShownMaps
closed_maps no_maps = no_maps
closed_maps (a_map k v maps) = a_map k (shows no_maps [] [] None) (closed_maps maps)

-- the same without what is below the maps
abbrev pub closed : Shown → Shown
closed (shows maps regs sets counters) = shows (closed_maps maps) regs sets counters
