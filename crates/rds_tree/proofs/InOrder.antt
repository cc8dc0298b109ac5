-- What a view has stands in order.
use Rattle.std.proofs.Common.{◌≡◌, ℕ, ◌≤◌, true, false, cond, List, [], ◌∷◌, map, refl, ap, subst, length, arith}
use Rattle.std.specs.Prelude.{ℤ, Some, None, if◌then◌else◌}
use Rattle.std.specs.List.{filter_map, cons_option, AllByRecursion}
use Rattle.std.specs.List.Sorted.{IsStrictlySortedBy}
use Rattle.std.specs.FinMap as map_of
use Rattle.std.specs.declared.cmp.Ordering.TheVariants.{Less}
use Rattle.rds_names.specs.declared.scalar.Scalar.{Scalar}
use Rattle.rds_names.specs.declared.entry.Kind.{Kind}
use Rattle.rds_names.specs.declared.entry.Kind.TheVariants.{Reg, Elem}
use Rattle.rds_life.specs.Life.{live_rows}
use Rattle.rds_counts.specs.Value.{value_of}
use Rattle.rds_state.specs.Value.{StateValue}
use Rattle.rds_tree.specs.Document.{Placed, entries_in, counted_keys, sums_of, document}
use Rattle.rds_names.specs.Key.{key_cmp}
use Rattle.rds_names.specs.Orders.{scalar_cmp}
use Rattle.rds_tree.specs.Shown.{Shown, maps_of}
use Rattle.rds_tree.specs.Shows.{Ascend, IsInOrder, SumsAscend, map_keys}
use Rattle.rds_tree.specs.View.{below, below_path, children, counters_shown, entries_view, first_key, goes_deeper}
use Rattle.rds_tree.specs.View.{keys_below}
use Rattle.rds_tree.specs.View.{shown_to, value_here, values_by_key, values_here, view_of, with_key}
use Rattle.rds_tree.proofs.Members.{once_rises}

abbrev Rows : Type 0
Rows = List (List ℕ × List Scalar)

abbrev row_keys : Rows → List (List ℕ)
row_keys rows = map (λ r. r.0) rows

abbrev Below : List ℕ → List (List ℕ) → Type 0
Below k ks = AllByRecursion (λ x. key_cmp k x ≡ Less) ks

-- ---- values

one_below : (k x : List ℕ) (vs : List Scalar) (rest : Rows) → key_cmp k x ≡ Less → Below k (row_keys rest) → Below k (row_keys (cons_option (with_key x vs) rest))
one_below k x [] rest less all = all
one_below k x (v ∷ vs) rest less all = (less, all)

one_rises : (x : List ℕ) (vs : List Scalar) (rest : Rows) → Below x (row_keys rest) → IsStrictlySortedBy key_cmp (row_keys rest) → IsStrictlySortedBy key_cmp (row_keys (cons_option (with_key x vs) rest))
unfolding IsStrictlySortedBy
one_rises x [] rest all rise = rise
one_rises x (v ∷ vs) rest all rise = (all, rise)

one_some : (x : List ℕ) (vs : List Scalar) (rest : Rows) → AllByRecursion (λ r. 1 ≤ length r.1) rest → AllByRecursion (λ r. 1 ≤ length r.1) (cons_option (with_key x vs) rest)
one_some x [] rest all = all
one_some x (v ∷ vs) rest all = (omega arith, all)

one_ascends : (x : List ℕ) (vs : List Scalar) (rest : Rows) → IsStrictlySortedBy scalar_cmp vs → AllByRecursion (λ r. IsStrictlySortedBy scalar_cmp r.1) rest → AllByRecursion (λ r. IsStrictlySortedBy scalar_cmp r.1) (cons_option (with_key x vs) rest)
one_ascends x [] rest rise all = all
one_ascends x (v ∷ vs) rest rise all = (rise, all)

module _ (kind : Kind) (es : List Placed) where
  abbrev rows_at : List (List ℕ) → Rows
  rows_at ks = values_by_key kind (map (λ k. (k, below k es)) ks)

  all_below : (k : List ℕ) (ks : List (List ℕ)) → Below k ks → Below k (row_keys (rows_at ks))
  all_below k [] h = tt
  all_below k (x ∷ ks) h = one_below k x (values_here kind (below x es)) (rows_at ks) h.0 (all_below k ks h.1)

  rows_rise : (ks : List (List ℕ)) → IsStrictlySortedBy key_cmp ks → IsStrictlySortedBy key_cmp (row_keys (rows_at ks))
  unfolding IsStrictlySortedBy
  rows_rise [] h = tt
  rows_rise (x ∷ ks) h = one_rises x (values_here kind (below x es)) (rows_at ks) (all_below x ks h.0) (rows_rise ks h.1)

  all_some : (ks : List (List ℕ)) → AllByRecursion (λ r. 1 ≤ length r.1) (rows_at ks)
  all_some [] = tt
  all_some (x ∷ ks) = one_some x (values_here kind (below x es)) (rows_at ks) (all_some ks)

  all_ascend : (ks : List (List ℕ)) → AllByRecursion (λ r. IsStrictlySortedBy scalar_cmp r.1) (rows_at ks)
  all_ascend [] = tt
  all_ascend (x ∷ ks) = one_ascends x (values_here kind (below x es)) (rows_at ks) (once_rises scalar_cmp (filter_map (λ e. value_here kind e.kind e.value e.path) (below x es))) (all_ascend ks)

keys_rise : (es : List Placed) → IsStrictlySortedBy key_cmp (keys_below es)
keys_rise es = once_rises key_cmp (filter_map (λ e. first_key e.path) es)

values_ascend : (kind : Kind) (es : List Placed) → Ascend (values_by_key kind (children es))
values_ascend kind es = record { keys = rows_rise kind es (keys_below es) (keys_rise es); some = all_some kind es (keys_below es); values = all_ascend kind es (keys_below es) }

-- ---- maps

module _ (f : List Placed → Shown) (es : List Placed) where
  abbrev maps_at : List (List ℕ) → List (List ℕ × Shown)
  maps_at ks = filter_map (λ (c : List ℕ × List Placed). if goes_deeper c.1 then Some (c.0, f c.1) else None) (map (λ k. (k, below k es)) ks)

  abbrev map_names : List (List ℕ) → List (List ℕ)
  map_names ks = map_keys (maps_of (maps_at ks))

  maps_below : (k : List ℕ) (ks : List (List ℕ)) → Below k ks → Below k (map_names ks)
  maps_below k [] h = tt
  maps_below k (x ∷ ks) h = elim (goes_deeper (below x es)) as (λ b. Below k (map_keys (maps_of (cons_option (cond b (Some (x, f (below x es))) None) (maps_at ks))))) [
    | true ↦ (h.0, maps_below k ks h.1)
    | false ↦ maps_below k ks h.1
  ]

  maps_rise : (ks : List (List ℕ)) → IsStrictlySortedBy key_cmp ks → IsStrictlySortedBy key_cmp (map_names ks)
  unfolding IsStrictlySortedBy
  maps_rise [] h = tt
  maps_rise (x ∷ ks) h = elim (goes_deeper (below x es)) as (λ b. IsStrictlySortedBy key_cmp (map_keys (maps_of (cons_option (cond b (Some (x, f (below x es))) None) (maps_at ks))))) [
    | true ↦ (maps_below x ks h.0, maps_rise ks h.1)
    | false ↦ maps_rise ks h.1
  ]

-- ---- sums

firsts : (f : List ℕ → ℤ) (ks : List (List ℕ)) → ks ≡ map (λ (r : List ℕ × ℤ). r.0) (map (λ k. (k, f k)) ks)
firsts f [] = refl
firsts f (k ∷ ks) = ap (λ xs. k ∷ xs) (firsts f ks)

sums_rise : (v : StateValue) (path : List (List ℕ)) → SumsAscend (counters_shown path (sums_of v.counts))
sums_rise v (k ∷ path) = tt
sums_rise v [] = subst (IsStrictlySortedBy key_cmp) (firsts (value_of v.counts) (counted_keys v.counts)) (once_rises key_cmp (map (λ e. e.0.key) (map_of.entries v.counts)))

pub in_order : (v : StateValue) (path : List (List ℕ)) → IsInOrder (view_of (document v) path)
unfolding entries_view
in_order v path =
    let es = below_path path (entries_in (live_rows v.lives)) in
    record {
      maps = maps_rise (shown_to 7 None) es (keys_below es) (keys_rise es);
      regs = values_ascend Reg es;
      sets = values_ascend Elem es;
      counters = sums_rise v path;
    }
