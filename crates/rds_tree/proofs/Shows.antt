-- What a view has.
use Rattle.std.proofs.Common.{◌≡◌, ℕ, Bool, true, false, cond, ◌&&◌, ◌||◌, List, [], ◌∷◌, ◌++◌, map, refl, sym, ◌∙◌, ap}
use Rattle.std.proofs.Common.{subst}
use Rattle.std.specs.Prelude.{◌↔◌, ℤ, Some, None}
use Rattle.std.specs.List.{list_any, filter_map}
use Rattle.std.specs.Ordering.{eq_by_cmp}
use Rattle.std.specs.FinMap as map_of
use Rattle.std.specs.FinMap.{nat_cmp-IsAntisymmetric, slice_cmp-IsAntisymmetric}
use Rattle.std.specs.Cmp.Lexicographic.{nat_list_cmp_total}
use Rattle.rds_names.specs.declared.scalar.Scalar.{Scalar}
use Rattle.rds_names.specs.declared.entry.Kind.{Kind}
use Rattle.rds_names.specs.declared.entry.Kind.TheVariants.{Reg, Elem}
use Rattle.rds_life.specs.Life.{live_rows}
use Rattle.rds_names.specs.Conditions.{and_true, and_left, and_right}
use Rattle.rds_counts.specs.Value.{value_of}
use Rattle.rds_state.specs.Document.{IsCounted, value_in}
use Rattle.rds_state.specs.Value.{StateValue, coordinates}
use Rattle.rds_tree.specs.Document.{Placed, entries_in, keys_once, counted_keys, sums_of, document}
use Rattle.rds_names.specs.Orders.{scalar_cmp}
use Rattle.rds_names.proofs.Orders.{scalars_exact}
use Rattle.rds_tree.proofs.ScalarOrder.{scalars_total}
use Rattle.rds_tree.specs.Shows.{IsLiveAt, shows_value, regs_in, sets_in, sum_at}
use Rattle.rds_tree.specs.View.{below, below_path, children, entries_view, first_key, keys_below, same_key, value_here}
use Rattle.rds_tree.specs.View.{values_by_key, values_here, view_of, with_key}
use Rattle.rds_tree.proofs.Kids.{itself}
use Rattle.rds_tree.proofs.Members.{any-once, any_wider, some_passes}
use Rattle.rds_tree.proofs.Reached.{any-below, any-below_path, here_is, here_itself, is_here, is_reached, keys_exact}
use Rattle.rds_tree.proofs.Reached.{placed_at, reached, reaches}
use Rattle.rds_tree.proofs.SameDocument.{any-map, at_key, counted_passes, shown_passes, some_counts, some_shows}
use Rattle.rds_tree.proofs.SameDocument.{value_is}
use Rattle.rds_tree.proofs.SameView.{any-filter_map, passes}
use Rattle.rds_tree.proofs.Witness.{both_ways}

any_key-once : (t : List ℕ → Bool) (ks : List (List ℕ)) → list_any t (keys_once ks) ≡ list_any t ks
any_key-once t ks = any-once nat_list_cmp_total (slice_cmp-IsAntisymmetric nat_cmp-IsAntisymmetric) t ks

-- ---- values

-- whether an entry is the value right under the key
abbrev is_under : Kind → List ℕ → Scalar → Placed → Bool
is_under kind key value = reaches (is_here kind value) (key ∷ [])

any-values : (kind : Kind) (key : List ℕ) (value : Scalar) (es : List Placed) → list_any (eq_by_cmp scalar_cmp value) (values_here kind (below key es)) ≡ list_any (is_under kind key value) es
any-values kind key value es =
    any-once scalars_total scalars_exact (eq_by_cmp scalar_cmp value) (filter_map (λ e. value_here kind e.kind e.value e.path) (below key es))
    ∙ any-filter_map (eq_by_cmp scalar_cmp value) (λ e. value_here kind e.kind e.value e.path) (below key es) ∙ any-below (is_here kind value) key es

abbrev row_test : List ℕ → Scalar → List ℕ × List Scalar → Bool
row_test key value r = same_key key r.0 && list_any (eq_by_cmp scalar_cmp value) r.1

and_false : (a : Bool) → false ≡ (a && false)
and_false true = refl
and_false false = refl

passes-with_key : (key : List ℕ) (value : Scalar) (k : List ℕ) (vs : List Scalar) → passes (row_test key value) (with_key k vs) ≡ (same_key key k && list_any (eq_by_cmp scalar_cmp value) vs)
passes-with_key key value k [] = and_false (same_key key k)
passes-with_key key value k (v ∷ vs) = refl

module _ (kind : Kind) (key : List ℕ) (value : Scalar) (es : List Placed) where
  abbrev at_one : List ℕ → Bool
  at_one k = same_key key k && list_any (is_under kind k value) es

  from_first : (path : List (List ℕ)) → passes at_one (first_key path) ≡ true → list_any (is_under kind key value) es ≡ true
  from_first [] h = absurd (cc)
  from_first (x ∷ path) h =
      ap (λ k. list_any (is_under kind k value) es) (keys_exact key x (and_left (same_key key x) _ h)) ∙ and_right (same_key key x) _ h

  to_first : (e : Placed) → is_under kind key value e ≡ true → list_any (is_under kind key value) es ≡ true → passes at_one (first_key e.path) ≡ true
  to_first e under all =
      let r = reached (is_here kind value) (key ∷ []) e.kind e.value e.path under in
      ap (λ p. passes at_one (first_key p)) r.1.0 ∙ and_true (same_key key key) _ (itself key) all

  any-rows : shows_value (values_by_key kind (children es)) key value ≡ list_any (is_under kind key value) es
  any-rows =
      any-filter_map (row_test key value) (λ c. with_key c.0 (values_here kind c.1)) (children es)
      ∙ any-map (λ c. passes (row_test key value) (with_key c.0 (values_here kind c.1))) (λ k. (k, below k es)) (keys_below es)
      ∙ (λ i. list_any (λ k. (passes-with_key key value k (values_here kind (below k es)) ∙ ap (λ b. same_key key k && b) (any-values kind k value es)) i) (keys_below es))
      ∙ any_key-once at_one (filter_map (λ e. first_key e.path) es)
      ∙ any-filter_map at_one (λ e. first_key e.path) es
      ∙ both_ways _ _
      (λ h. let p = some_passes (λ e. passes at_one (first_key e.path)) es h in from_first p.0.path p.1)
      (λ h. any_wider (is_under kind key value) (λ e. passes at_one (first_key e.path)) es (λ e under. to_first e under h) h)

module _ (v : StateValue) (path : List (List ℕ)) (key : List ℕ) where
  abbrev seen : List Placed
  seen = below_path path (entries_in (live_rows v.lives))

  live_value : (kind : Kind) (value : Scalar) → (list_any (is_under kind key value) seen ≡ true) ↔ IsLiveAt v (path ++ key ∷ []) kind value
  live_value kind value = (to, from)
    where
      to : list_any (is_under kind key value) seen ≡ true → IsLiveAt v (path ++ key ∷ []) kind value
      to h =
          let s = some_shows (reaches (is_under kind key value) path) v (sym (any-below_path (is_under kind key value) path (entries_in (live_rows v.lives))) ∙ h) in
          let r = reached (is_under kind key value) path s.0.kind s.0.value s.0.path s.1.1 in
          let q = reached (is_here kind value) (key ∷ []) s.0.kind s.0.value r.0 r.1.1 in
          let p = here_is kind value s.0.kind s.0.value q.0 q.1.1 in
          (s.0, (s.1.0, record { at = r.1.0 ∙ ap (λ ks. path ++ ks) (q.1.0 ∙ ap (λ ks. key ∷ ks) p.0); stands = p.1.0; holds = p.1.1 }))

      from : IsLiveAt v (path ++ key ∷ []) kind value → list_any (is_under kind key value) seen ≡ true
      from s =
          let t = reaches (is_under kind key value) path in
          let e = s.0 in
          let parts = s.1.1 in
          any-below_path (is_under kind key value) path (entries_in (live_rows v.lives))
          ∙ shown_passes t v (
            e,
            (
              s.1.0,
              ap (λ p. t (placed_at p e.kind e.value)) parts.at ∙ ap (λ k. t (placed_at (path ++ key ∷ []) k e.value)) parts.stands ∙ ap (λ x. t (placed_at (path ++ key ∷ []) kind x)) parts.holds
                  ∙ is_reached (is_under kind key value) path kind value (key ∷ []) (is_reached (is_here kind value) (key ∷ []) kind value [] (here_itself kind value)),
            ),
          )

  pub regs_shown : (value : Scalar) → (shows_value (regs_in (view_of (document v) path)) key value ≡ true) ↔ IsLiveAt v (path ++ key ∷ []) Reg value
  unfolding entries_view
  regs_shown value = let l = live_value Reg value in (λ h. l.0 (sym (any-rows Reg key value seen) ∙ h), λ is. any-rows Reg key value seen ∙ l.1 is)

  pub sets_shown : (value : Scalar) → (shows_value (sets_in (view_of (document v) path)) key value ≡ true) ↔ IsLiveAt v (path ++ key ∷ []) Elem value
  unfolding entries_view
  sets_shown value = let l = live_value Elem value in (λ h. l.0 (sym (any-rows Elem key value seen) ∙ h), λ is. any-rows Elem key value seen ∙ l.1 is)

-- ---- sums

sum_at-of : (f : List ℕ → ℤ) (key : List ℕ) (ks : List (List ℕ)) → sum_at (map (λ k. (k, f k)) ks) key ≡ cond (list_any (same_key key) ks) (Some (f key)) None
sum_at-of f key [] = refl
sum_at-of f key (k ∷ ks) = elim (same_key key k) as (λ b. same_key key k ≡ b → cond b (Some (f k)) (sum_at (map (λ k. (k, f k)) ks) key) ≡ cond (b || list_any (same_key key) ks) (Some (f key)) None) [
  | true ↦ λ is. ap (λ q. Some (f q)) (sym (keys_exact key k is))
  | false ↦ λ _. sum_at-of f key ks
] refl

same_sum : (a b : ℤ) → Some a ≡ Some b → b ≡ a
same_sum a b h = cc

is_counted : (v : StateValue) (key : List ℕ) → (list_any (same_key key) (counted_keys v.counts) ≡ true) ↔ IsCounted (coordinates v) key
is_counted v key = (to, from)
  where
    keys : list_any (same_key key) (counted_keys v.counts) ≡ list_any (at_key (same_key key)) (map_of.entries v.counts)
    keys = any_key-once (same_key key) (map (λ e. e.0.key) (map_of.entries v.counts)) ∙ any-map (same_key key) (λ e. e.0.key) (map_of.entries v.counts)

    moved : (k : List ℕ) → same_key key k ≡ true → IsCounted (coordinates v) k → IsCounted (coordinates v) key
    moved k same is = coerce_key (sym (keys_exact key k same)) is
      where
        coerce_key : {a b : List ℕ} → a ≡ b → IsCounted (coordinates v) a → IsCounted (coordinates v) b
        coerce_key e is = subst (IsCounted (coordinates v)) e is

    to : list_any (same_key key) (counted_keys v.counts) ≡ true → IsCounted (coordinates v) key
    to h = let s = some_counts (same_key key) v (sym keys ∙ h) in moved s.0 s.1.1 s.1.0

    from : IsCounted (coordinates v) key → list_any (same_key key) (counted_keys v.counts) ≡ true
    from is = keys ∙ counted_passes (same_key key) v (key, (is, itself key))

pub sums_shown : (v : StateValue) (key : List ℕ) (sum : ℤ) → (sum_at (sums_of v.counts) key ≡ Some sum) ↔ (IsCounted (coordinates v) key × (sum ≡ value_in (coordinates v) key))
sums_shown v key sum = (to, from)
  where
    is : sum_at (sums_of v.counts) key ≡ cond (list_any (same_key key) (counted_keys v.counts)) (Some (value_of v.counts key)) None
    is = sum_at-of (value_of v.counts) key (counted_keys v.counts)

    to : sum_at (sums_of v.counts) key ≡ Some sum → IsCounted (coordinates v) key × (sum ≡ value_in (coordinates v) key)
    to h = elim (list_any (same_key key) (counted_keys v.counts)) as (λ b. list_any (same_key key) (counted_keys v.counts) ≡ b → cond b (Some (value_of v.counts key)) None ≡ Some sum → IsCounted (coordinates v) key × (sum ≡ value_in (coordinates v) key)) [
      | true ↦ λ has g. ((is_counted v key).0 has, same_sum _ _ g ∙ sym (value_is v key))
      | false ↦ λ _ g. absurd (cc)
    ] refl (sym is ∙ h)

    from : IsCounted (coordinates v) key × (sum ≡ value_in (coordinates v) key) → sum_at (sums_of v.counts) key ≡ Some sum
    from p = is ∙ ap (λ b. cond b (Some (value_of v.counts key)) None) ((is_counted v key).1 p.0) ∙ ap Some (sym (value_is v key) ∙ sym p.1)
