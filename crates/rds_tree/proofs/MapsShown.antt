-- Which maps a view has, and what they show.
use Rattle.std.proofs.Common.{◌≡◌, ℕ, zero, suc, Bool, true, false, cond, ◌&&◌, ◌||◌, List, [], ◌∷◌, ◌++◌, map, refl}
use Rattle.std.proofs.Common.{sym, ◌∙◌, ap, append_assoc, length, leb, arith, ◌≤◌}
use Rattle.std.proofs.Math.Bool.{and-false}
use Rattle.std.specs.Prelude.{◌↔◌, ℤ, Option, Some, None, if◌then◌else◌}
use Rattle.std.proofs.lemmas.Bool.Decides.{nat_tests}
use Rattle.std.specs.List.{list_any, filter_map, cons_option}
use Rattle.std.specs.List.Sorted.{IsStrictlySortedBy}
use Rattle.std.specs.FinMap.{nat_cmp-IsAntisymmetric, slice_cmp-IsAntisymmetric}
use Rattle.std.specs.Cmp.Lexicographic.{nat_list_cmp_total}
use Rattle.rds_names.specs.declared.scalar.Scalar.{Scalar}
use Rattle.rds_names.specs.declared.entry.Entry.{Entry}
use Rattle.rds_names.specs.declared.entry.Kind.{Kind}
use Rattle.rds_names.specs.declared.entry.Kind.TheVariants.{Reg, Elem}
use Rattle.rds_dots.specs.declared.dot.Dot.{Dot}
use Rattle.rds_life.specs.Life.{live_rows}
use Rattle.rds_names.specs.Conditions.{and_true, and_left, and_right}
use Rattle.rds_state.specs.Value.{StateValue}
use Rattle.rds_tree.specs.Once.{once_is}
use Rattle.rds_tree.specs.Document.{Placed, entries_in, sums_of, document}
use Rattle.rds_tree.specs.Gathered.{child_maps}
use Rattle.rds_tree.specs.Shown.{Shown, shows, maps_of}
use Rattle.rds_tree.specs.Shows.{IsLiveBelow, map_at, maps_in}
use Rattle.rds_tree.specs.View.{below, below_path, children, counters_shown, entries_view, first_key, goes_deeper}
use Rattle.rds_tree.specs.View.{is_below}
use Rattle.rds_tree.specs.View.{keys_below, same_key, shown_to, step_into, values_by_key, view_of}
use Rattle.rds_tree.proofs.Kids.{fit, fit-below_path, itself}
use Rattle.rds_tree.proofs.Members.{any-once, any_wider}
use Rattle.rds_tree.proofs.Reached.{any-below, any-below_path, is_reached, keys_exact, placed_at, reached, reaches}
use Rattle.rds_tree.proofs.SameDocument.{shown_passes, some_shows}
use Rattle.rds_tree.proofs.SameView.{any-filter_map, filter_map-map, passes}
use Rattle.rds_tree.proofs.Walked.{no_fit, suc_le}

-- ---- what stands under a key

module _ (f : List Placed → Shown) (g : List ℕ → List Placed) (key : List ℕ) where
  abbrev kept : List (List ℕ) → List (List ℕ × Shown)
  kept ks = filter_map (λ (c : List ℕ × List Placed). if goes_deeper c.1 then Some (c.0, f c.1) else None) (map (λ k. (k, g k)) ks)

  abbrev here : List (List ℕ) → Option Shown
  here ks = cond (list_any (same_key key) ks && goes_deeper (g key)) (Some (f (g key))) None

  map_at-of : (ks : List (List ℕ)) → map_at (maps_of (kept ks)) key ≡ here ks
  map_at-of [] = refl
  map_at-of (k ∷ ks) =
      elim (goes_deeper (g k)) as (λ b. goes_deeper (g k) ≡ b → map_at (maps_of (cons_option (cond b (Some (k, f (g k))) None) (kept ks))) key ≡ here (k ∷ ks)) [
        | true ↦ λ on. elim (same_key key k) as (λ b. same_key key k ≡ b → cond b (Some (f (g k))) (map_at (maps_of (kept ks)) key) ≡ cond ((b || list_any (same_key key) ks) && goes_deeper (g key)) (Some (f (g key))) None) [
          | true ↦ λ is. ap (λ q. Some (f (g q))) (sym (keys_exact key k is)) ∙ sym (ap (λ b. cond b (Some (f (g key))) None) (ap (λ q. goes_deeper (g q)) (keys_exact key k is) ∙ on))
          | false ↦ λ _. map_at-of ks
        ] refl
        | false ↦ λ off. elim (same_key key k) as (λ b. same_key key k ≡ b → map_at (maps_of (kept ks)) key ≡ cond ((b || list_any (same_key key) ks) && goes_deeper (g key)) (Some (f (g key))) None) [
          | true ↦ λ is. let none = ap (λ q. goes_deeper (g q)) (keys_exact key k is) ∙ off in
              map_at-of ks ∙ ap (λ b. cond (list_any (same_key key) ks && b) (Some (f (g key))) None) none ∙ ap (λ b. cond b (Some (f (g key))) None) (and-false (list_any (same_key key) ks))
              ∙ sym (ap (λ b. cond b (Some (f (g key))) None) none)
          | false ↦ λ _. map_at-of ks
        ] refl
      ] refl

-- ---- what goes on below a key

abbrev goes_below : Placed → Bool
goes_below e = is_below e.path

key_stands : (key : List ℕ) (es : List Placed) → goes_deeper (below key es) ≡ true → list_any (same_key key) (keys_below es) ≡ true
key_stands key es on =
    any-once nat_list_cmp_total (slice_cmp-IsAntisymmetric nat_cmp-IsAntisymmetric) (same_key key) (filter_map (λ e. first_key e.path) es)
    ∙ any-filter_map (same_key key) (λ e. first_key e.path) es
    ∙ any_wider (reaches goes_below (key ∷ [])) (λ e. passes (same_key key) (first_key e.path)) es
    (λ e under. let r = reached goes_below (key ∷ []) e.kind e.value e.path under in ap (λ p. passes (same_key key) (first_key p)) r.1.0 ∙ itself key)
    (sym (any-below goes_below key es) ∙ on)

both : (key : List ℕ) (es : List Placed) → (list_any (same_key key) (keys_below es) && goes_deeper (below key es)) ≡ goes_deeper (below key es)
both key es = elim (goes_deeper (below key es)) as (λ b. goes_deeper (below key es) ≡ b → (list_any (same_key key) (keys_below es) && b) ≡ b) [
  | true ↦ λ on. ap (λ b. b && true) (key_stands key es on)
  | false ↦ λ _. and-false (list_any (same_key key) (keys_below es))
] refl

below_some : (rest : List (List ℕ)) → is_below rest ≡ true → (x : List ℕ) × ((more : List (List ℕ)) × (rest ≡ x ∷ more))
below_some [] h = absurd (cc)
below_some (x ∷ more) h = (x, (more, refl))

-- ---- more keys than there are change nothing

fit_step : (n : ℕ) (k : List ℕ) (kind : Kind) (value : Scalar) (path : List (List ℕ)) (rest : List Placed) → leb (length path) (suc n) ≡ true → fit n rest ≡ true → fit n (cons_option (step_into k kind value path) rest) ≡ true
fit_step n k kind value [] rest h all = all
fit_step n k kind value (x ∷ path) rest h all = elim (same_key x k) as (λ b. fit n (cons_option (cond b (Some (record { path = path; kind = kind; value = value })) None) rest) ≡ true) [
  | true ↦ and_true (leb (length path) n) _ (sym (suc_le (length path) n) ∙ h) all
  | false ↦ all
]

fit_below : (n : ℕ) (k : List ℕ) (es : List Placed) → fit (suc n) es ≡ true → fit n (below k es) ≡ true
fit_below n k [] h = refl
fit_below n k (e ∷ es) h = fit_step n k e.kind e.value e.path (below k es) (and_left (leb (length e.path) (suc n)) _ h) (fit_below n k es (and_right (leb (length e.path) (suc n)) _ h))

no_first : (path : List (List ℕ)) (b : Bool) → (leb (length path) zero && b) ≡ true → first_key path ≡ None
no_first [] b h = refl
no_first (k ∷ path) b h = absurd (no_fit (length path) b h)

no_keys : (es : List Placed) → fit zero es ≡ true → filter_map (λ e. first_key e.path) es ≡ []
no_keys [] h = refl
no_keys (e ∷ es) h = ap (λ o. cons_option o (filter_map (λ e. first_key e.path) es)) (no_first e.path _ h) ∙ no_keys es (and_right (leb (length e.path) zero) _ h)

no_children : (es : List Placed) → fit zero es ≡ true → children es ≡ []
unfolding IsStrictlySortedBy
no_children es h =
    ap (map (λ k. (k, below k es))) (once_is nat_list_cmp_total (slice_cmp-IsAntisymmetric nat_cmp-IsAntisymmetric) [] (filter_map (λ e. first_key e.path) es) tt (λ q. ap (list_any (same_key q)) (no_keys es h)))

shown_more : (n : ℕ) (counters : Option (List (List ℕ × ℤ))) (es : List Placed) → fit n es ≡ true → shown_to n counters es ≡ shown_to (suc n) counters es
shown_more zero counters es h = sym (ap (λ cs. shows (maps_of (child_maps zero cs)) (values_by_key Reg cs) (values_by_key Elem cs) counters) (no_children es h))
shown_more (suc n) counters es h =
    let as_map : (m : ℕ) → child_maps m (children es) ≡ filter_map (λ k. if goes_deeper (below k es) then Some (k, shown_to m None (below k es)) else None) (keys_below es) =
    λ m. filter_map-map (λ c. if goes_deeper c.1 then Some (c.0, shown_to m None c.1) else None) (λ k. (k, below k es)) (keys_below es) in
    let maps : child_maps n (children es) ≡ child_maps (suc n) (children es) =
    as_map n ∙ (λ i. filter_map (λ k. if goes_deeper (below k es) then Some (k, shown_more n None (below k es) (fit_below n k es h) i) else None) (keys_below es)) ∙ sym (as_map (suc n)) in
    ap (λ ms. shows (maps_of ms) (values_by_key Reg (children es)) (values_by_key Elem (children es)) counters) maps

short_path : (e : Entry) → leb (length e.path) 8 ≡ true
short_path e = let short : length e.path ≤ 8 = e.within in grind (arith, nat_tests)

all_short : (rows : List (Dot × Entry)) → fit 8 (entries_in rows) ≡ true
all_short [] = refl
all_short (r ∷ rows) = and_true (leb (length r.1.path) 8) _ (short_path r.1) (all_short rows)

-- ---- the view under a key

pub below_path-end : (path : List (List ℕ)) (key : List ℕ) (es : List Placed) → below_path (path ++ key ∷ []) es ≡ below key (below_path path es)
below_path-end [] key es = refl
below_path-end (k ∷ path) key es = below_path-end path key (below k es)

no_counters : (path : List (List ℕ)) (key : List ℕ) (sums : List (List ℕ × ℤ)) → counters_shown (path ++ key ∷ []) sums ≡ None
no_counters [] key sums = refl
no_counters (k ∷ path) key sums = refl

same_some : {A : Type 0} (a b : A) → Some a ≡ Some b → a ≡ b
same_some a b h = cc

module _ (v : StateValue) (path : List (List ℕ)) (key : List ℕ) where
  abbrev all : List Placed
  all = entries_in (live_rows v.lives)

  abbrev seen : List Placed
  seen = below_path path all

  abbrev inner : Shown
  inner = view_of (document v) (path ++ key ∷ [])

  inner_is : inner ≡ shown_to 7 None (below key seen)
  unfolding entries_view
  inner_is =
      ap (λ counters. shown_to 8 counters (below_path (path ++ key ∷ []) all)) (no_counters path key (sums_of v.counts)) ∙ ap (shown_to 8 None) (below_path-end path key all)
      ∙ sym (shown_more 7 None (below key seen) (fit_below 7 key seen (fit-below_path 8 path all (all_short (live_rows v.lives)))))

  map_is : map_at (maps_in (view_of (document v) path)) key ≡ cond (goes_deeper (below key seen)) (Some inner) None
  unfolding entries_view
  map_is =
      map_at-of (shown_to 7 None) (λ k. below k seen) key (keys_below seen) ∙ ap (λ b. cond b (Some (shown_to 7 None (below key seen))) None) (both key seen)
      ∙ ap (λ s. cond (goes_deeper (below key seen)) (Some s) None) (sym inner_is)

  abbrev t : Placed → Bool
  t = reaches (reaches goes_below (key ∷ [])) path

  live_below : (goes_deeper (below key seen) ≡ true) ↔ IsLiveBelow v (path ++ key ∷ [])
  live_below = (to, from)
    where
      told : goes_deeper (below key seen) ≡ list_any t all
      told = any-below goes_below key seen ∙ any-below_path (reaches goes_below (key ∷ [])) path all

      to : goes_deeper (below key seen) ≡ true → IsLiveBelow v (path ++ key ∷ [])
      to h =
          let s = some_shows t v (sym told ∙ h) in
          let r = reached (reaches goes_below (key ∷ [])) path s.0.kind s.0.value s.0.path s.1.1 in
          let q = reached goes_below (key ∷ []) s.0.kind s.0.value r.0 r.1.1 in
          let x = below_some q.0 q.1.1 in
          (s.0, (s.1.0, (x.0, (x.1.0, r.1.0 ∙ ap (λ ks. path ++ ks) (q.1.0 ∙ ap (λ ks. key ∷ ks) x.1.1) ∙ sym (append_assoc path (key ∷ []) (x.0 ∷ x.1.0))))))

      from : IsLiveBelow v (path ++ key ∷ []) → goes_deeper (below key seen) ≡ true
      from s =
          let e = s.0 in
          let x = s.1.1.0 in
          let rest = s.1.1.1.0 in
          told ∙ shown_passes t v (
            e,
            (
              s.1.0,
              ap (λ p. t (placed_at p e.kind e.value)) (s.1.1.1.1 ∙ append_assoc path (key ∷ []) (x ∷ rest))
                  ∙ is_reached (reaches goes_below (key ∷ [])) path e.kind e.value (key ∷ x ∷ rest) (is_reached goes_below (key ∷ []) e.kind e.value (x ∷ rest) refl),
            ),
          )

  pub maps_shown : (shown : Shown) → (map_at (maps_in (view_of (document v) path)) key ≡ Some shown) ↔ (IsLiveBelow v (path ++ key ∷ []) × (shown ≡ inner))
  maps_shown shown = (to, from)
    where
      to : map_at (maps_in (view_of (document v) path)) key ≡ Some shown → IsLiveBelow v (path ++ key ∷ []) × (shown ≡ inner)
      to h = elim (goes_deeper (below key seen)) as (λ b. goes_deeper (below key seen) ≡ b → cond b (Some inner) None ≡ Some shown → IsLiveBelow v (path ++ key ∷ []) × (shown ≡ inner)) [
        | true ↦ λ on g. (live_below.0 on, sym (same_some inner shown g))
        | false ↦ λ _ g. absurd (cc)
      ] refl (sym map_is ∙ h)

      from : IsLiveBelow v (path ++ key ∷ []) × (shown ≡ inner) → map_at (maps_in (view_of (document v) path)) key ≡ Some shown
      from p = map_is ∙ ap (λ b. cond b (Some inner) None) (live_below.1 p.0) ∙ ap Some (sym p.1)
