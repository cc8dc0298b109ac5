-- A view without what is below its maps is one that is a key deep.
use Rattle.std.proofs.Common.{◌≡◌, ℕ, true, false, cond, List, [], ◌∷◌, refl, sym, ap}
use Rattle.std.specs.Prelude.{ℤ, Option, Some, None}
use Rattle.std.specs.List.{cons_option}
use Rattle.rds_names.specs.declared.entry.Kind.TheVariants.{Reg, Elem}
use Rattle.rds_tree.specs.Document.{Placed}
use Rattle.rds_tree.specs.Gathered.{child_maps}
use Rattle.rds_tree.specs.Parts.{closed, closed_maps}
use Rattle.rds_tree.specs.Shown.{a_map, maps_of, no_maps, shows}
use Rattle.rds_tree.specs.View.{below_path, children, entries_view, goes_deeper, shown_to, values_by_key}

closed_children : (n : ℕ) (cs : List (List ℕ × List Placed)) → closed_maps (maps_of (child_maps n cs)) ≡ maps_of (child_maps 0 cs)
closed_children n [] = refl
closed_children n (c ∷ cs) =
    elim (goes_deeper c.1) as (λ b. closed_maps (maps_of (cons_option (cond b (Some (c.0, shown_to n None c.1)) None) (child_maps n cs))) ≡ maps_of (cons_option (cond b (Some (c.0, shown_to 0 None c.1)) None) (child_maps 0 cs))) [
      | true ↦ ap (a_map c.0 (shows no_maps [] [] None)) (closed_children n cs)
      | false ↦ closed_children n cs
    ]

pub closed_view : (counters : Option (List (List ℕ × ℤ))) (path : List (List ℕ)) (es : List Placed) → shown_to 1 counters (below_path path es) ≡ closed (entries_view counters path es)
unfolding entries_view
closed_view counters path es =
    let cs = children (below_path path es) in
    ap (λ maps. shows maps (values_by_key Reg cs) (values_by_key Elem cs) counters) (sym (closed_children 7 cs))
