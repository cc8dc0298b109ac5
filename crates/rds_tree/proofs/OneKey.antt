-- What a view shows under one key comes from what stands at the key or below it.
use Rattle.std.proofs.Common.{◌≡◌, ℕ, Bool, true, false, cond, ◌||◌, List, [], ◌∷◌, ◌++◌, map, refl, sym, ◌∙◌, ap, append-nil}
use Rattle.std.specs.Prelude.{ℤ, Option, Some, None, if◌then◌else◌}
use Rattle.std.specs.Option.{option_map, option_to_list}
use Rattle.std.specs.List.{list_any, filter_map, cons_option, AllByRecursion}
use Rattle.std.specs.List.Sorted.{IsStrictlySortedBy}
use Rattle.std.specs.Ordering.{is_eq}
use Rattle.std.specs.declared.cmp.Ordering.TheVariants.{Less}
use Rattle.std.specs.FinMap.{nat_cmp-IsAntisymmetric, slice_cmp-IsAntisymmetric}
use Rattle.std.specs.Cmp.Lexicographic.{nat_list_cmp_total}
use Rattle.rds_names.specs.declared.scalar.Scalar.{Scalar}
use Rattle.rds_names.specs.declared.entry.Kind.{Kind}
use Rattle.rds_names.specs.declared.entry.Kind.TheVariants.{Reg, Elem}
use Rattle.rds_counts.specs.Counted.{Counted}
use Rattle.rds_counts.specs.Value.{value_of}
use Rattle.rds_tree.specs.Document.{Placed, counted_keys, sums_of}
use Rattle.rds_names.specs.Key.{key_cmp}
use Rattle.rds_tree.specs.Gathered.{child_maps, map_under, view_under}
use Rattle.rds_tree.specs.Once.{once_is}
use Rattle.rds_tree.specs.Parts.{only_key, only_maps, only_rows}
use Rattle.rds_tree.specs.Shown.{Shown, a_map, maps_of, no_maps, shows}
use Rattle.rds_tree.specs.View.{below, below_path, children, entries_view, first_key, goes_deeper, is_below, keys_below}
use Rattle.rds_tree.specs.View.{same_key, shown_to, step_into, values_by_key, values_here, with_key}
use Rattle.rds_tree.proofs.Kids.{flip_eq}
use Rattle.rds_tree.proofs.MapsShown.{below_path-end}
use Rattle.rds_tree.proofs.Members.{any-once, once_rises}
use Rattle.rds_tree.proofs.Reached.{keys_exact}
use Rattle.rds_names.proofs.Orders.{scalars_exact}
use Rattle.rds_tree.proofs.ScalarOrder.{scalars_total}
use Rattle.rds_tree.proofs.SameView.{SameMembers, filter_map-map, same_values, same_view}

-- ---- rows of ascending keys

others : (key k : List ℕ) (ks : List (List ℕ)) → key ≡ k → AllByRecursion (λ y. key_cmp k y ≡ Less) ks → list_any (same_key key) ks ≡ false
others key k [] is h = refl
others key k (x ∷ ks) is h = ap (λ b. is_eq b || list_any (same_key key) ks) (ap (λ q. key_cmp q x) is ∙ h.0) ∙ others key k ks is h.1

only-cons_option : {X : Type 0} (key : List ℕ) (o : Option (List ℕ × X)) (rows : List (List ℕ × X)) → only_rows key (cons_option o rows) ≡ only_rows key (option_to_list o) ++ only_rows key rows
only-cons_option key None rows = refl
only-cons_option {X} key (Some r) rows = elim (same_key key r.0) as (λ b. cond b (r ∷ only_rows key rows) (only_rows key rows) ≡ cond b (r ∷ []) [] ++ only_rows key rows) [ true ↦ refl | false ↦ refl ]

only_maps-of : (key : List ℕ) (rows : List (List ℕ × Shown)) → only_maps key (maps_of rows) ≡ maps_of (only_rows key rows)
only_maps-of key [] = refl
only_maps-of key (r ∷ rows) = elim (same_key key r.0) as (λ b. cond b (a_map r.0 r.1 (only_maps key (maps_of rows))) (only_maps key (maps_of rows)) ≡ maps_of (cond b (r ∷ only_rows key rows) (only_rows key rows))) [
  | true ↦ ap (a_map r.0 r.1) (only_maps-of key rows)
  | false ↦ only_maps-of key rows
]

-- what is told of each key is a row of that key
abbrev TellsOwn : {X : Type 0} → List ℕ → (List ℕ → Option (List ℕ × X)) → Type 0
TellsOwn key h = (k : List ℕ) → only_rows key (option_to_list (h k)) ≡ cond (same_key key k) (option_to_list (h key)) []

only_told : {X : Type 0} (key : List ℕ) (h : List ℕ → Option (List ℕ × X)) (ks : List (List ℕ)) → TellsOwn key h → IsStrictlySortedBy key_cmp ks → only_rows key (filter_map h ks) ≡ cond (list_any (same_key key) ks) (option_to_list (h key)) []
unfolding IsStrictlySortedBy
only_told key h [] own rise = refl
only_told {X} key h (k ∷ ks) own rise =
    only-cons_option key (h k) (filter_map h ks) ∙ ap (λ rows. rows ++ only_rows key (filter_map h ks)) (own k) ∙ ap (λ rows. cond (same_key key k) (option_to_list (h key)) [] ++ rows) (only_told key h ks own rise.1)
    ∙ elim (same_key key k) as (λ b. same_key key k ≡ b → (cond b (option_to_list (h key)) [] ++ cond (list_any (same_key key) ks) (option_to_list (h key)) []) ≡ cond (b || list_any (same_key key) ks) (option_to_list (h key)) []) [
      | true ↦ λ is. ap (λ b. option_to_list (h key) ++ cond b (option_to_list (h key)) []) (others key k ks (keys_exact key k is) rise.0) ∙ append-nil (option_to_list (h key))
      | false ↦ λ _. refl
    ] refl

-- ---- under a key that no entry has stands nothing

or_first : (a b : Bool) → (a || b) ≡ false → a ≡ false
or_first true b h = h
or_first false b h = refl

or_second : (a b : Bool) → (a || b) ≡ false → b ≡ false
or_second true b h = absurd (cc)
or_second false b h = h

none_stepped : (key : List ℕ) (kind : Kind) (value : Scalar) (path : List (List ℕ)) (keys : List (List ℕ)) → list_any (same_key key) (cons_option (first_key path) keys) ≡ false → (step_into key kind value path ≡ None) × (list_any (same_key key) keys ≡ false)
none_stepped key kind value [] keys h = (refl, h)
none_stepped key kind value (x ∷ path) keys h = (
  ap (λ b. cond b (Some (record { path = path; kind = kind; value = value })) None) (sym (flip_eq key x) ∙ or_first (same_key key x) _ h),
  or_second (same_key key x) _ h,
)

none_below : (key : List ℕ) (es : List Placed) → list_any (same_key key) (filter_map (λ e. first_key e.path) es) ≡ false → below key es ≡ []
none_below key [] h = refl
none_below key (e ∷ es) h =
    let n = none_stepped key e.kind e.value e.path _ h in
    ap (λ o. cons_option o (below key es)) n.0 ∙ none_below key es n.1

-- ---- what is reported of the children

module _ {X : Type 0} (t : List ℕ × List Placed → Option (List ℕ × X)) (own : (key k : List ℕ) (es : List Placed) → only_rows key (option_to_list (t (k, es))) ≡ cond (same_key key k) (option_to_list (t (k, es))) []) (nothing : (k : List ℕ) → t (k, []) ≡ None) where
  own_key : (key : List ℕ) (es : List Placed) → TellsOwn key (λ k. t (k, below k es))
  own_key key es k = own key k (below k es) ∙ elim (same_key key k) as (λ b. same_key key k ≡ b → cond b (option_to_list (t (k, below k es))) [] ≡ cond b (option_to_list (t (key, below key es))) []) [
    | true ↦ λ is. ap (λ q. option_to_list (t (q, below q es))) (sym (keys_exact key k is))
    | false ↦ λ _. refl
  ] refl

  only_child : (key : List ℕ) (es : List Placed) → only_rows key (filter_map t (children es)) ≡ option_to_list (t (key, below key es))
  only_child key es =
      let heads = filter_map (λ e. first_key e.path) es in
      let stands = list_any (same_key key) (keys_below es) in
      ap (only_rows key) (filter_map-map t (λ k. (k, below k es)) (keys_below es))
      ∙ only_told key (λ k. t (k, below k es)) (keys_below es) (own_key key es) (once_rises key_cmp heads)
      ∙ elim stands as (λ b. stands ≡ b → cond b (option_to_list (t (key, below key es))) [] ≡ option_to_list (t (key, below key es))) [
        | true ↦ λ _. refl
        | false ↦ λ no. sym (ap (λ ds. option_to_list (t (key, ds))) (none_below key es (sym (any-once nat_list_cmp_total (slice_cmp-IsAntisymmetric nat_cmp-IsAntisymmetric) (same_key key) heads) ∙ no)) ∙ ap option_to_list (nothing key))
      ] refl

own_values : (key k : List ℕ) (vs : List Scalar) → only_rows key (option_to_list (with_key k vs)) ≡ cond (same_key key k) (option_to_list (with_key k vs)) []
own_values key k [] = elim (same_key key k) as (λ b. no_rows ≡ cond b no_rows []) [ true ↦ refl | false ↦ refl ]
  where
    no_rows : List (List ℕ × List Scalar)
    no_rows = []
own_values key k (v ∷ vs) = refl

own_map : (key k : List ℕ) (shown : Shown) (b : Bool) → only_rows key (option_to_list (cond b (Some (k, shown)) None)) ≡ cond (same_key key k) (option_to_list (cond b (Some (k, shown)) None)) []
own_map key k shown true = refl
own_map key k shown false = elim (same_key key k) as (λ b. no_rows ≡ cond b no_rows []) [ true ↦ refl | false ↦ refl ]
  where
    no_rows : List (List ℕ × Shown)
    no_rows = []

no_values : (kind : Kind) → values_here kind [] ≡ []
unfolding IsStrictlySortedBy
no_values kind = once_is scalars_total scalars_exact [] [] tt (λ q. refl)

only_values : (kind : Kind) (key : List ℕ) (es : List Placed) → only_rows key (values_by_key kind (children es)) ≡ option_to_list (with_key key (values_here kind (below key es)))
only_values kind = only_child (λ c. with_key c.0 (values_here kind c.1)) (λ key k es. own_values key k (values_here kind es)) (λ k. ap (with_key k) (no_values kind))

only_map : (n : ℕ) (key : List ℕ) (es : List Placed) → only_rows key (child_maps n (children es)) ≡ option_to_list (if goes_deeper (below key es) then Some (key, shown_to n None (below key es)) else None)
only_map n = only_child (λ c. if goes_deeper c.1 then Some (c.0, shown_to n None c.1) else None) (λ key k es. own_map key k (shown_to n None es) (goes_deeper es)) (λ k. refl)

one_map : (key : List ℕ) (shown : Shown) (b : Bool) → maps_of (option_to_list (cond b (Some (key, shown)) None)) ≡ cond b (a_map key shown no_maps) no_maps
one_map key shown true = refl
one_map key shown false = refl

only_shown : (key : List ℕ) (counters : Option (List (List ℕ × ℤ))) (es : List Placed) → only_key key (shown_to 8 counters es) ≡ view_under key (option_map (only_rows key) counters) (below key es)
unfolding map_under
only_shown key counters es =
    let maps = only_maps-of key (child_maps 7 (children es)) ∙ ap maps_of (only_map 7 key es) ∙ one_map key (shown_to 7 None (below key es)) (goes_deeper (below key es)) in
    let regs = only_values Reg key es in
    let sets = only_values Elem key es in
    λ i. shows (maps i) (regs i) (sets i) (option_map (only_rows key) counters)

-- a view at a path, but what stands under one key alone
pub only_view : (key : List ℕ) (counters : Option (List (List ℕ × ℤ))) (path : List (List ℕ)) (es : List Placed) → only_key key (entries_view counters path es) ≡ view_under key (option_map (only_rows key) counters) (below_path (path ++ key ∷ []) es)
unfolding entries_view
only_view key counters path es = only_shown key counters (below_path path es) ∙ ap (view_under key (option_map (only_rows key) counters)) (sym (below_path-end path key es))

pub under_nothing : (key : List ℕ) (counters : Option (List (List ℕ × ℤ))) → shows no_maps [] [] counters ≡ view_under key counters []
unfolding map_under
under_nothing key counters = λ i. shows no_maps (option_to_list (with_key key (sym (no_values Reg) i))) (option_to_list (with_key key (sym (no_values Elem) i))) counters

-- entries with the same members under the key show the same there
pub same_under : (key : List ℕ) (counters : Option (List (List ℕ × ℤ))) (es fs : List Placed) → SameMembers es fs → view_under key counters es ≡ view_under key counters fs
unfolding map_under
same_under key counters es fs same =
    let on : goes_deeper es ≡ goes_deeper fs = same.any (λ e. is_below e.path) in
    λ i. shows (cond (on i) (a_map key (same_view 7 None es fs same i) no_maps) no_maps) (option_to_list (with_key key (same_values Reg es fs same i))) (option_to_list (with_key key (same_values Elem es fs same i))) counters

-- ---- the counter

abbrev sum_row : (List ℕ → ℤ) → List ℕ → List ℕ × ℤ
sum_row f k = (k, f k)

as_told : (f : List ℕ → ℤ) (ks : List (List ℕ)) → map (sum_row f) ks ≡ filter_map (λ k. Some (sum_row f k)) ks
as_told f [] = refl
as_told f (k ∷ ks) = ap (λ rows. sum_row f k ∷ rows) (as_told f ks)

own_sum : (f : List ℕ → ℤ) (key : List ℕ) → TellsOwn key (λ k. Some (sum_row f k))
own_sum f key k = elim (same_key key k) as (λ b. same_key key k ≡ b → cond b (sum_row f k ∷ []) [] ≡ cond b (sum_row f key ∷ []) []) [
  | true ↦ λ is. ap (λ q. sum_row f q ∷ []) (sym (keys_exact key k is))
  | false ↦ λ _. refl
] refl

only_sum : (key : List ℕ) (m : Counted) → only_rows key (sums_of m) ≡ cond (list_any (same_key key) (counted_keys m)) (sum_row (value_of m) key ∷ []) []
only_sum key m =
    ap (only_rows key) (as_told (value_of m) (counted_keys m))
    ∙ only_told key (λ k. Some (sum_row (value_of m) k)) (counted_keys m) (own_sum (value_of m) key) (once_rises key_cmp _)

-- a key that is counted, and one that isn't
pub one_sum : (key k : List ℕ) (m : Counted) (sum : ℤ) (b : Bool) → b ≡ list_any (same_key key) (counted_keys m) → b ≡ true → k ≡ key → sum ≡ value_of m key → (k, sum) ∷ [] ≡ only_rows key (sums_of m)
one_sum key k m sum b counted is at stands =
    ap (λ q. sum_row (λ _. sum) q ∷ []) at ∙ ap (λ z. sum_row (λ _. z) key ∷ []) stands
    ∙ ap (λ x. cond x (sum_row (value_of m) key ∷ []) []) (sym is ∙ counted) ∙ sym (only_sum key m)

pub no_sum : (key : List ℕ) (m : Counted) (b : Bool) → b ≡ list_any (same_key key) (counted_keys m) → b ≡ false → [] ≡ only_rows key (sums_of m)
no_sum key m b counted is = ap (λ x. cond x (sum_row (value_of m) key ∷ []) []) (sym is ∙ counted) ∙ sym (only_sum key m)
