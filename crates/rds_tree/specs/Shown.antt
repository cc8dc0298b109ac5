-- What a view shows.
use Rattle.std.specs.Prelude.{ℕ, ℤ, List, [], ◌∷◌, Option, map}
use Rattle.rds_names.specs.declared.scalar.Scalar.{Scalar}
use Rattle.rds_tree.specs.declared.views.View.{View}
use Rattle.rds_tree.specs.declared.views.Maps.{Maps}
use Rattle.rds_tree.specs.declared.views.Maps.TheOpen.{View-F, Maps-F}
use Rattle.rds_tree.specs.declared.views.Maps.TheFolds.{fold-View, fold-Maps}

mutual
  -- the maps by key, the values of registers and of sets by key, and the counters
  pub data Shown : Type 0 where
    shows : ShownMaps → List (List ℕ × List Scalar) → List (List ℕ × List Scalar) → Option (List (List ℕ × ℤ)) → Shown

  pub data ShownMaps : Type 0 where
    no_maps : ShownMaps
    a_map : List ℕ → Shown → ShownMaps → ShownMaps

abbrev pub maps_of : List (List ℕ × Shown) → ShownMaps
maps_of [] = no_maps
maps_of (m ∷ ms) = a_map m.0 m.1 (maps_of ms)

abbrev pub view_step : View-F ShownMaps Shown → Shown
view_step v = shows v.maps v.regs v.sets v.counters

abbrev pub maps_step : Maps-F ShownMaps Shown → ShownMaps
maps_step m = maps_of m.maps.items

abbrev pub shown_view : View → Shown
shown_view = fold-View ShownMaps Shown maps_step view_step

abbrev pub maps_shown : Maps → ShownMaps
maps_shown = fold-Maps ShownMaps Shown maps_step view_step

abbrev pub views_shown : List (List ℕ × View) → List (List ℕ × Shown)
views_shown rows = map (λ r. (r.0, shown_view r.1)) rows
