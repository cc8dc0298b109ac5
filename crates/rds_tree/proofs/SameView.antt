-- Entries with the same members show the same.
use Rattle.std.proofs.Common.{◌≡◌, ℕ, zero, suc, Bool, false, cond, ◌||◌, List, [], ◌∷◌, map, refl, sym, ◌∙◌, ap}
use Rattle.std.specs.Prelude.{ℤ, Option, Some, None, if◌then◌else◌}
use Rattle.std.specs.List.{list_any, filter_map, cons_option}
use Rattle.std.specs.Ordering.{eq_by_cmp}
use Rattle.std.specs.FinMap.{nat_cmp-IsAntisymmetric, slice_cmp-IsAntisymmetric}
use Rattle.std.specs.Cmp.Lexicographic.{nat_list_cmp_total}
use Rattle.rds_names.specs.declared.entry.Kind.{Kind}
use Rattle.rds_names.specs.declared.entry.Kind.TheVariants.{Reg, Elem}
use Rattle.rds_tree.specs.Once.{once_same}
use Rattle.rds_names.specs.Orders.{scalar_cmp}
use Rattle.rds_names.proofs.Orders.{scalars_exact}
use Rattle.rds_tree.proofs.ScalarOrder.{scalars_total}
use Rattle.rds_tree.specs.Document.{Placed}
use Rattle.rds_names.specs.Key.{key_cmp}
use Rattle.rds_tree.specs.View.{keys_below, first_key, step_into, below, below_path, children, value_here, values_here}
use Rattle.rds_tree.specs.View.{with_key, values_by_key, goes_deeper, is_below, shown_to, entries_view}
use Rattle.rds_tree.specs.Gathered.{child_maps}
use Rattle.rds_tree.specs.Shown.{shows, maps_of}

-- each test that a member of one passes is passed by a member of the other
pub record SameMembers (es fs : List Placed) : Type 0 where
  pub any : (t : Placed → Bool) → list_any t es ≡ list_any t fs

abbrev pub passes : {X : Type 0} → (X → Bool) → Option X → Bool
passes t None = false
passes t (Some x) = t x

any-cons_option : {Y : Type 0} (t : Y → Bool) (o : Option Y) (ys : List Y) → list_any t (cons_option o ys) ≡ (passes t o || list_any t ys)
any-cons_option t None ys = refl
any-cons_option t (Some y) ys = refl

pub any-filter_map : {X Y : Type 0} (t : Y → Bool) (h : X → Option Y) (xs : List X) → list_any t (filter_map h xs) ≡ list_any (λ x. passes t (h x)) xs
any-filter_map t h [] = refl
any-filter_map t h (x ∷ xs) = any-cons_option t (h x) (filter_map h xs) ∙ ap (λ b. passes t (h x) || b) (any-filter_map t h xs)

-- what is picked from both has the same members too
same_picked : {Y : Type 0} (h : Placed → Option Y) (es fs : List Placed) → SameMembers es fs → (t : Y → Bool) → list_any t (filter_map h es) ≡ list_any t (filter_map h fs)
same_picked h es fs same t = any-filter_map t h es ∙ same.any (λ e. passes t (h e)) ∙ sym (any-filter_map t h fs)

same_below : (k : List ℕ) (es fs : List Placed) → SameMembers es fs → SameMembers (below k es) (below k fs)
same_below k es fs same = record { any = same_picked (λ e. step_into k e.kind e.value e.path) es fs same }

pub same_below_path : (path : List (List ℕ)) (es fs : List Placed) → SameMembers es fs → SameMembers (below_path path es) (below_path path fs)
same_below_path [] es fs same = same
same_below_path (k ∷ path) es fs same = same_below_path path (below k es) (below k fs) (same_below k es fs same)

same_keys : (es fs : List Placed) → SameMembers es fs → keys_below es ≡ keys_below fs
same_keys es fs same = once_same nat_list_cmp_total (slice_cmp-IsAntisymmetric nat_cmp-IsAntisymmetric) _ _ (λ q. same_picked (λ e. first_key e.path) es fs same (eq_by_cmp key_cmp q))

pub same_values : (kind : Kind) (es fs : List Placed) → SameMembers es fs → values_here kind es ≡ values_here kind fs
same_values kind es fs same = once_same scalars_total scalars_exact _ _ (λ q. same_picked (λ e. value_here kind e.kind e.value e.path) es fs same (eq_by_cmp scalar_cmp q))

pub filter_map-map : {X Y Z : Type 0} (h : Y → Option Z) (g : X → Y) (xs : List X) → filter_map h (map g xs) ≡ filter_map (λ x. h (g x)) xs
filter_map-map h g [] = refl
filter_map-map h g (x ∷ xs) = ap (cons_option (h (g x))) (filter_map-map h g xs)

-- what is told of each child is the same
told : {Y : Type 0} (h : List ℕ × List Placed → Option Y) (es fs : List Placed) → SameMembers es fs → ((k : List ℕ) → h (k, below k es) ≡ h (k, below k fs)) → filter_map h (children es) ≡ filter_map h (children fs)
told h es fs same each =
    filter_map-map h (λ k. (k, below k es)) (keys_below es) ∙ ap (filter_map (λ k. h (k, below k es))) (same_keys es fs same)
    ∙ (λ i. filter_map (λ k. each k i) (keys_below fs)) ∙ sym (filter_map-map h (λ k. (k, below k fs)) (keys_below fs))

pub same_view : (n : ℕ) (counters : Option (List (List ℕ × ℤ))) (es fs : List Placed) → SameMembers es fs → shown_to n counters es ≡ shown_to n counters fs
same_view zero counters es fs same = refl
same_view (suc n) counters es fs same =
    let values : (kind : Kind) → values_by_key kind (children es) ≡ values_by_key kind (children fs) =
    λ kind. told (λ c. with_key c.0 (values_here kind c.1)) es fs same (λ k. ap (with_key k) (same_values kind (below k es) (below k fs) (same_below k es fs same))) in
    let maps : child_maps n (children es) ≡ child_maps n (children fs) =
    told (λ c. if goes_deeper c.1 then Some (c.0, shown_to n None c.1) else None) es fs same (λ k i. cond ((same_below k es fs same).any (λ e. is_below e.path) i) (Some (k, same_view n None (below k es) (below k fs) (same_below k es fs same) i)) None) in
    λ i. shows (maps_of (maps i)) (values Reg i) (values Elem i) counters

pub same_entries_view : (counters : Option (List (List ℕ × ℤ))) (path : List (List ℕ)) (es fs : List Placed) → SameMembers (below_path path es) (below_path path fs) → entries_view counters path es ≡ entries_view counters path fs
unfolding entries_view
same_entries_view counters path es fs same = same_view 8 counters _ _ same
