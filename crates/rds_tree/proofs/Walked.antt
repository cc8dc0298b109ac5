-- What a walk over a tree's children has gathered so far.
use Rattle.std.proofs.Common.{◌≡◌, ℕ, zero, suc, Bool, true, false, ◌&&◌, List, [], ◌∷◌, ◌++◌, map, refl, sym, ◌∙◌, ap}
use Rattle.std.proofs.Common.{leb, arith, append-nil, append_assoc, subst}
use Rattle.std.specs.Prelude.{Option, Some, None, if◌then◌else◌, ℤ}
use Rattle.std.specs.Option.{option_to_list}
use Rattle.std.proofs.lemmas.Bool.Decides.{nat_tests}
use Rattle.std.specs.List.{cons_option}
use Rattle.std.specs.List.Sorted.{IsStrictlySortedBy}
use Rattle.rds_names.specs.declared.scalar.Scalar.{Scalar}
use Rattle.rds_names.specs.declared.entry.Kind.TheVariants.{Reg, Elem}
use Rattle.rds_tree.specs.declared.leaf.Leaf.{Leaf}
use Rattle.rds_names.specs.Key.{key_cmp}
use Rattle.rds_tree.specs.View.{values_by_key, values_here, with_key, goes_deeper, shown_to, children}
use Rattle.rds_tree.specs.Gathered.{child_maps}
use Rattle.rds_tree.specs.Row.{Row, rows_in_node, are_full, placed_all, placed_below}
use Rattle.rds_tree.specs.Shown.{Shown, ShownMaps, maps_step, view_step, shows, maps_of, shown_view}
use Rattle.rds_tree.specs.Shown.{maps_shown, views_shown}
use Rattle.rds_tree.specs.declared.views.Maps.{Maps}
use Rattle.rds_tree.specs.declared.views.Maps.TheViews.{roll-View}
use Rattle.rds_tree.specs.declared.views.Maps.TheFolds.{fold-roll-View}
use Rattle.rds_tree.specs.declared.views.View.{View}
use Rattle.rds_tree.proofs.Kids.{children-rows}

-- what was gathered from some of the children, whose views are n keys deep
pub record IsWalked (n : ℕ) (all left : List (List ℕ × List Row)) (regs sets : List (List ℕ × List Scalar)) (maps : List (List ℕ × Shown)) : Type 0 where
  pub of_regs : regs ++ values_by_key Reg (placed_below left) ≡ values_by_key Reg (placed_below all)
  pub of_sets : sets ++ values_by_key Elem (placed_below left) ≡ values_by_key Elem (placed_below all)
  pub of_maps : maps ++ child_maps n (placed_below left) ≡ child_maps n (placed_below all)

abbrev pub child_map : ℕ → List ℕ × List Row → Option (List ℕ × Shown)
child_map n c = if goes_deeper (placed_all c.1) then Some (c.0, shown_to n None (placed_all c.1)) else None

pushed : {X : Type 0} (xs : List X) (o : Option X) (ys : List X) → (xs ++ option_to_list o) ++ ys ≡ xs ++ cons_option o ys
pushed xs None ys = ap (λ zs. zs ++ ys) (append-nil xs)
pushed xs (Some y) ys = append_assoc xs (y ∷ []) ys

-- one more child
pub walked_on : (n : ℕ) (all left rest : List (List ℕ × List Row)) (c : List ℕ × List Row) (regs sets regs' sets' : List (List ℕ × List Scalar)) (maps maps' : List (List ℕ × Shown)) → IsWalked n all left regs sets maps → left ≡ c ∷ rest
    → regs' ≡ regs ++ option_to_list (with_key c.0 (values_here Reg (placed_all c.1))) → sets' ≡ sets ++ option_to_list (with_key c.0 (values_here Elem (placed_all c.1)))
    → maps' ≡ maps ++ option_to_list (child_map n c) → IsWalked n all rest regs' sets' maps'
walked_on n all left rest c regs sets regs' sets' maps maps' w is r s m = record {
  of_regs = ap (λ xs. xs ++ values_by_key Reg (placed_below rest)) r ∙ pushed regs _ _ ∙ ap (λ cs. regs ++ values_by_key Reg (placed_below cs)) (sym is) ∙ w.of_regs;
  of_sets = ap (λ xs. xs ++ values_by_key Elem (placed_below rest)) s ∙ pushed sets _ _ ∙ ap (λ cs. sets ++ values_by_key Elem (placed_below cs)) (sym is) ∙ w.of_sets;
  of_maps = ap (λ xs. xs ++ child_maps n (placed_below rest)) m ∙ pushed maps (child_map n c) _ ∙ ap (λ cs. maps ++ child_maps n (placed_below cs)) (sym is) ∙ w.of_maps;
}

pub no_fit : (a : ℕ) (b : Bool) → (leb (suc a) zero && b) ≡ true → ⊥
no_fit a b h = grind (arith, nat_tests)

pub suc_le : (a n : ℕ) → leb (suc a) (suc n) ≡ leb a n
suc_le a n = grind (arith, nat_tests)

-- at the end the walk has the view
pub walked_whole : (n depth : ℕ) (counters : Option (List (List ℕ × ℤ))) (leaves : List Leaf) (cs : List (List ℕ × List Row)) (regs sets : List (List ℕ × List Scalar)) (maps : List (List ℕ × Shown)) → depth ≡ suc n → are_full cs ≡ true → IsStrictlySortedBy key_cmp (map (λ c. c.0) cs) → IsWalked n cs [] regs sets maps
    → shows (maps_of maps) regs sets counters ≡ shown_to depth counters (placed_all (rows_in_node leaves cs))
walked_whole n depth counters leaves cs regs sets maps deep full rise w =
    let kids = children-rows leaves cs full rise in
    let r : regs ≡ values_by_key Reg (children (placed_all (rows_in_node leaves cs))) = sym (append-nil regs) ∙ w.of_regs ∙ ap (values_by_key Reg) (sym kids) in
    let s : sets ≡ values_by_key Elem (children (placed_all (rows_in_node leaves cs))) = sym (append-nil sets) ∙ w.of_sets ∙ ap (values_by_key Elem) (sym kids) in
    let m : maps ≡ child_maps n (children (placed_all (rows_in_node leaves cs))) = sym (append-nil maps) ∙ w.of_maps ∙ ap (child_maps n) (sym kids) in
    ap (λ ms. shows (maps_of ms) regs sets counters) m ∙ ap (λ rs. shows (maps_of (child_maps n (children (placed_all (rows_in_node leaves cs))))) rs sets counters) r
    ∙ ap (λ ss. shows (maps_of (child_maps n (children (placed_all (rows_in_node leaves cs))))) (values_by_key Reg (children (placed_all (rows_in_node leaves cs)))) ss counters) s
    ∙ ap (λ d. shown_to d counters (placed_all (rows_in_node leaves cs))) (sym deep)

pub views_push : (xs : List (List ℕ × View)) (k : List ℕ) (v : View) → views_shown (xs ++ (k, v) ∷ []) ≡ views_shown xs ++ (k, shown_view v) ∷ []
views_push [] k v = refl
views_push (x ∷ xs) k v = ap (λ ys. (x.0, shown_view x.1) ∷ ys) (views_push xs k v)

-- the maps after a child below which something stands, and below which nothing does
pub with_map : (k : List ℕ) (rows : List Row) (maps : List (List ℕ × Shown)) (shows_it : Shown) → goes_deeper (placed_all rows) ≡ true → (n : ℕ) → shows_it ≡ shown_to n None (placed_all rows) → maps ++ (k, shows_it) ∷ [] ≡ maps ++ option_to_list (child_map n (k, rows))
with_map k rows maps shows_it on n is = rw on (ap (λ v. maps ++ (k, v) ∷ []) is)

pub without_map : (k : List ℕ) (rows : List Row) (maps : List (List ℕ × Shown)) → goes_deeper (placed_all rows) ≡ false → (n : ℕ) → maps ≡ maps ++ option_to_list (child_map n (k, rows))
without_map k rows maps off n = rw off (sym (append-nil maps))

pub walked_to : (n : ℕ) (all left cs : List (List ℕ × List Row)) (regs sets : List (List ℕ × List Scalar)) (maps : List (List ℕ × Shown)) → IsWalked n all left regs sets maps → all ≡ cs → left ≡ [] → IsWalked n cs [] regs sets maps
walked_to n all left cs regs sets maps w is none =
    subst (λ ds. IsWalked n ds [] regs sets maps) is (subst (λ ds. IsWalked n all ds regs sets maps) none w)

pub shown_view-roll : (m : Maps) (regs sets : List (List ℕ × List Scalar)) (counters : Option (List (List ℕ × ℤ))) → shown_view (roll-View (record { maps = m; regs = regs; sets = sets; counters = counters })) ≡ shows (maps_shown m) regs sets counters
shown_view-roll m regs sets counters = fold-roll-View ShownMaps Shown maps_step view_step (record { maps = m; regs = regs; sets = sets; counters = counters })
