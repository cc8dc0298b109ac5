-- The lines of the registers with more than one value: those of one list behind another, and that sets add none.
use Rattle.std.proofs.Common.{◌≡◌, ◌∙◌, ◌+◌, ◌<◌, ℕ, Bool, true, false, List, [], ◌∷◌, ◌++◌, if◌then◌else◌, ap, arith, drop, get_or, length, suc, sym, refl, map}
use Rattle.std.proofs.lemmas.List.{drop_more, map-append}
use Rattle.std.proofs.lemmas.List.Elements.{filter-append}
use Rattle.std.specs.Prelude.{filter}
use Rattle.rds_names.specs.declared.entry.Kind.TheVariants.{Elem, Reg}
use Rattle.rds_names.specs.declared.scalar.Scalar.{Scalar}
use Rattle.rds_tree.specs.Shown.{Shown, ShownMaps, shows, a_map, maps_of, maps_shown, maps_step, no_maps, shown_view, view_step, views_shown}
use Rattle.rds_tree.specs.declared.views.Maps.TheFolds.{fold-roll-View}
use Rattle.rds_tree.specs.declared.views.Maps.TheViews.{out-View, roll-out-View}
use Rattle.rds_tree.specs.declared.views.View.{View}
use Rattle.rds_json.proofs.Sizes.{maps_size, size_of}
use Rattle.rds_listing.specs.Conflicts.{conflict_line, conflict_lines, conflicts_below, is_conflict}
use Rattle.rds_listing.specs.Pieces.{lines_text}
use Rattle.rds_listing.specs.Standings.{StandingValue, all_stand, is_past, past, standings, standings_beside, stands, up_to, values_stand}
use Rattle.rds_listing.proofs.Merged.{in_turn}

pub conflicts_append : (xs ys : List StandingValue) → conflict_lines (xs ++ ys) ≡ conflict_lines xs ++ conflict_lines ys
conflicts_append xs ys =
    ap (map conflict_line) (filter-append is_conflict xs ys)
    ∙ map-append conflict_line (filter is_conflict xs) (filter is_conflict ys)

split_if : {X : Type 0} (b : Bool) (x : X) (front behind xs : List X) → front ++ behind ≡ xs
    → (if b then [] else x ∷ front) ++ (if b then x ∷ xs else behind) ≡ x ∷ xs
split_if true x front behind xs are = refl
split_if {X} false x front behind xs are = ap (λ (l : List X). x ∷ l) are

up_and_past : (key : List ℕ) (rows : List (List ℕ × List Scalar)) → up_to key rows ++ past key rows ≡ rows
up_and_past key [] = refl
up_and_past key (row ∷ rows) =
    split_if (is_past key row) row (up_to key rows) (past key rows) rows (up_and_past key rows)

sets_add_none : (above : List (List ℕ)) (regs sets : List (List ℕ × List Scalar))
    → conflict_lines (values_stand above regs sets) ≡ conflict_lines (all_stand above Reg regs)
sets_add_none above regs [] = refl
sets_add_none above regs (row ∷ sets) =
    let front = all_stand above Reg (up_to row.0 regs) in
    let behind = past row.0 regs in
    conflicts_append front (stands above Elem row ∷ values_stand above behind sets)
    ∙ ap (λ (t : List (List ℕ)). conflict_lines front ++ t) (sets_add_none above behind sets)
    ∙ sym (conflicts_append front (all_stand above Reg behind))
    ∙ ap conflict_lines
    (sym (map-append (stands above Reg) (up_to row.0 regs) behind) ∙ ap (all_stand above Reg) (up_and_past row.0 regs))

-- registers and maps alone tell all
told_without_sets : (above : List (List ℕ)) (regs sets : List (List ℕ × List Scalar)) (maps : ShownMaps)
    → conflict_lines (standings_beside above regs sets maps) ≡ conflict_lines (standings_beside above regs [] maps)
told_without_sets above regs sets no_maps = sets_add_none above regs sets
told_without_sets above regs sets (a_map key shown maps) =
    let own = standings (above ++ key ∷ []) shown in
    let here = up_to key regs in
    let later = past key regs in
    let behind = standings_beside above later (past key sets) maps in
    let alone = standings_beside above later [] maps in
    conflicts_append (values_stand above here (up_to key sets)) (own ++ behind)
    ∙ ap (λ (t : List (List ℕ)). t ++ conflict_lines (own ++ behind)) (sets_add_none above here (up_to key sets))
    ∙ ap (λ (t : List (List ℕ)). conflict_lines (all_stand above Reg here) ++ t)
    (conflicts_append own behind
    ∙ ap (λ (t : List (List ℕ)). conflict_lines own ++ t) (told_without_sets above later (past key sets) maps)
    ∙ sym (conflicts_append own alone))
    ∙ sym (conflicts_append (all_stand above Reg here) (own ++ alone))

shown_open : (v : View) → shown_view v ≡ shows (maps_shown (out-View v).maps) (out-View v).regs (out-View v).sets (out-View v).counters
shown_open v = ap shown_view (sym (roll-out-View v)) ∙ fold-roll-View ShownMaps Shown maps_step view_step (out-View v)

-- the maps of a view are smaller than it
pub maps_are_smaller : (v : View) (maps : ShownMaps) → maps_shown (out-View v).maps ≡ maps → maps_size maps < size_of (shown_view v)
maps_are_smaller v maps are =
    let size : size_of (shown_view v) ≡ suc (maps_size (maps_shown (out-View v).maps)) = ap size_of (shown_open v) in
    let same : maps_size (maps_shown (out-View v).maps) ≡ maps_size maps = ap maps_size are in
    omega (arith, size, same)

-- what a view shows is known by its registers and maps
pub told_of_view : (above : List (List ℕ)) (v : View) (regs : List (List ℕ × List Scalar)) (maps : ShownMaps)
    → regs ≡ (out-View v).regs → maps_shown (out-View v).maps ≡ maps
    → lines_text (conflict_lines (standings_beside above regs [] maps)) ≡ conflicts_below above (shown_view v)
told_of_view above v regs maps are_regs are_maps =
    let open_view = out-View v in
    ap (λ (rs : List (List ℕ × List Scalar)). lines_text (conflict_lines (standings_beside above rs [] maps))) are_regs
    ∙ ap (λ (ms : ShownMaps). lines_text (conflict_lines (standings_beside above open_view.regs [] ms))) (sym are_maps)
    ∙ ap lines_text (sym (told_without_sets above open_view.regs open_view.sets (maps_shown open_view.maps)))
    ∙ ap (conflicts_below above) (sym (shown_open v))

-- the lines of what a map's key and what it shows add
pub map_told : (above : List (List ℕ)) (regs : List (List ℕ × List Scalar)) (maps : List (List ℕ × View)) (i : ℕ)
    (row : List ℕ × View) (now next last whole : List ℕ) → i < length maps → row ≡ get_or maps i row
    → now ++ lines_text (conflict_lines (standings_beside above regs [] (maps_of (views_shown (drop i maps))))) ≡ whole
    → next ≡ now ++ lines_text (conflict_lines (all_stand above Reg (up_to row.0 regs)))
    → last ≡ next ++ conflicts_below (above ++ row.0 ∷ []) (shown_view row.1)
    → last ++ lines_text (conflict_lines (standings_beside above (past row.0 regs) [] (maps_of (views_shown (drop (i + 1) maps))))) ≡ whole
map_told above regs maps i row now next last whole lt item told first second =
    let left = drop (i + 1) maps in
    let more : drop i maps ≡ row ∷ left = drop_more maps i row lt ∙ ap (λ (y : List ℕ × View). y ∷ left) (sym item) in
    let here = all_stand above Reg (up_to row.0 regs) in
    let own = standings (above ++ row.0 ∷ []) (shown_view row.1) in
    let rest = standings_beside above (past row.0 regs) [] (maps_of (views_shown left)) in
    let split : conflict_lines (here ++ (own ++ rest)) ≡ conflict_lines here ++ (conflict_lines own ++ conflict_lines rest) =
    conflicts_append here (own ++ rest) ∙ ap (λ (t : List (List ℕ)). conflict_lines here ++ t) (conflicts_append own rest) in
    in_turn now next last whole (conflict_lines here) (conflict_lines own) (conflict_lines rest)
    (ap (λ (t : List (List ℕ)). now ++ lines_text t) (sym split)
    ∙ ap (λ (ms : List (List ℕ × View)). now ++ lines_text (conflict_lines (standings_beside above regs [] (maps_of (views_shown ms))))) (sym more)
    ∙ told)
    first second

-- what is left behind a map is smaller, where the map and what is left are
pub smaller_left : (maps : List (List ℕ × View)) (i : ℕ) (row : List ℕ × View) (n : ℕ) → i < length maps → row ≡ get_or maps i row
    → maps_size (maps_of (views_shown (drop i maps))) < n → maps_size (maps_of (views_shown (drop (i + 1) maps))) < n
smaller_left maps i row n lt item less =
    let left = drop (i + 1) maps in
    let more : drop i maps ≡ row ∷ left = drop_more maps i row lt ∙ ap (λ (y : List ℕ × View). y ∷ left) (sym item) in
    let whole : maps_size (maps_of (views_shown (drop i maps))) ≡ suc (size_of (shown_view row.1) + maps_size (maps_of (views_shown left))) =
    ap (λ (ms : List (List ℕ × View)). maps_size (maps_of (views_shown ms))) more in
    omega (arith, whole, less)
