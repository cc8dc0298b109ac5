-- What a walk over a tree gathers for a view.
use Rattle.std.specs.Prelude.{ℕ, ℤ, List, Option, Some, None, if◌then◌else◌}
use Rattle.std.specs.Option.{option_to_list}
use Rattle.std.specs.List.{filter_map}
use Rattle.rds_names.specs.declared.scalar.Scalar.{Scalar}
use Rattle.rds_names.specs.declared.entry.Kind.{Kind}
use Rattle.rds_names.specs.declared.entry.Kind.TheVariants.{Reg, Elem}
use Rattle.rds_tree.specs.declared.leaf.Leaf.{Leaf}
use Rattle.rds_tree.specs.Shown.{Shown, ShownMaps, a_map, no_maps, shows}
use Rattle.rds_tree.specs.Document.{Placed}
use Rattle.rds_tree.specs.View.{is_that_kind, goes_deeper, shown_to, values_here, with_key}

-- the values of a kind, leaf by leaf
abbrev pub values_in : Kind → List Leaf → List Scalar
values_in kind leaves = filter_map (λ l. if is_that_kind kind l.kind then Some l.value else None) leaves

-- the views of the children below which more stands
abbrev pub child_maps : ℕ → List (List ℕ × List Placed) → List (List ℕ × Shown)
child_maps n cs = filter_map (λ c. if goes_deeper c.1 then Some (c.0, shown_to n None c.1) else None) cs

-- the view of what stands below a key, under the key
unfoldable pub map_under : List ℕ → List Placed → ShownMaps
map_under key es = if goes_deeper es then a_map key (shown_to 7 None es) no_maps else no_maps

-- what entries show under a key that stand there or below, beside these counters
abbrev pub view_under : List ℕ → Option (List (List ℕ × ℤ)) → List Placed → Shown
view_under key counters es =
    shows (map_under key es) (option_to_list (with_key key (values_here Reg es)))
    (option_to_list (with_key key (values_here Elem es))) counters
