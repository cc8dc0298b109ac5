-- The same document shows the same.
use Rattle.std.proofs.Common.{◌≡◌, ℕ, ◌<◌, Bool, true, ◌||◌, List, [], ◌∷◌, map as each, refl, sym, ◌∙◌, ap, arith}
use Rattle.std.specs.Prelude.{Option, Some, None}
use Rattle.std.specs.List.{list_any}
use Rattle.std.specs.Ordering.{eq_by_cmp}
use Rattle.std.specs.FinMap as map
use Rattle.std.specs.FinMap.{nat_cmp-IsAntisymmetric, slice_cmp-IsAntisymmetric}
use Rattle.std.specs.Cmp.Lexicographic.{nat_list_cmp_total}
use Rattle.rds_names.specs.declared.entry.Entry.{Entry}
use Rattle.rds_dots.specs.declared.dot.Dot.{Dot}
use Rattle.rds_dots.specs.Order.{dots_total, dots_exact}
use Rattle.rds_life.specs.Life.{Life, Live, Dead, Lived, live_row, live_rows}
use Rattle.rds_counts.specs.Place.{Place}
use Rattle.rds_counts.specs.PlaceOrder.{place_total, place_exact}
use Rattle.rds_counts.specs.Counted.{Above, number_from, place}
use Rattle.rds_counts.specs.Value.{value_of}
use Rattle.rds_state.specs.Document.{IsCounted, IsShown, value_in}
use Rattle.rds_state.specs.Value.{StateValue, coordinates}
use Rattle.rds_tree.specs.Once.{once_same}
use Rattle.rds_tree.specs.Document.{Placed, entry_placed, entries_in, counted_keys, sums_of, document}
use Rattle.rds_names.specs.Key.{key_cmp}
use Rattle.rds_tree.specs.SameDocument.{AreSameDocument}
use Rattle.rds_tree.specs.View.{counters_shown, entries_view, view_of}
use Rattle.rds_tree.proofs.SameView.{SameMembers, same_below_path, same_entries_view, any-filter_map, passes}
use Rattle.rds_tree.proofs.Witness.{both_ways, entry_passes, passes_entry}

pub any-map : {A B : Type 0} (t : B → Bool) (f : A → B) (xs : List A) → list_any t (each f xs) ≡ list_any (λ x. t (f x)) xs
any-map t f [] = refl
any-map t f (x ∷ xs) = ap (λ b. t (f x) || b) (any-map t f xs)

-- ---- entries

abbrev pub test_of : Entry → Placed
test_of e = record { path = e.path; kind = e.kind; value = e.value }

abbrev at_row : (Placed → Bool) → Dot × Life → Bool
at_row t x = passes (λ r. t (entry_placed r)) (live_row x.0 x.1)

any-live : (t : Placed → Bool) (v : Lived) → list_any t (entries_in (live_rows v)) ≡ list_any (at_row t) (map.entries v)
any-live t v = any-map t entry_placed (live_rows v) ∙ any-filter_map (λ r. t (entry_placed r)) (λ x. live_row x.0 x.1) (map.entries v)

abbrev pub Shows : (Placed → Bool) → StateValue → Type 0
Shows t v = (e : Entry) × (IsShown (coordinates v) e × (t (test_of e) ≡ true))

shows_live : (t : Placed → Bool) (v : StateValue) (d : Dot) (l : Life) → map.get v.lives d ≡ Some l → at_row t (d, l) ≡ true → Shows t v
shows_live t v d (Live e) got h = (e, ((d, got), h))
shows_live t v d Dead got h = absurd (cc)

pub some_shows : (t : Placed → Bool) (v : StateValue) → list_any t (entries_in (live_rows v.lives)) ≡ true → Shows t v
some_shows t v h = let p = entry_passes dots_total dots_exact (at_row t) v.lives (sym (any-live t v.lives) ∙ h) in shows_live t v p.0 p.1.0 p.1.1.0 p.1.1.1

pub shown_passes : (t : Placed → Bool) (v : StateValue) → Shows t v → list_any t (entries_in (live_rows v.lives)) ≡ true
shown_passes t v s = any-live t v.lives ∙ passes_entry dots_total dots_exact (at_row t) v.lives s.1.0.0 (Live s.0) s.1.0.1 s.1.1

same_shows : (t : Placed → Bool) (v w : StateValue) → ((e : Entry) → IsShown (coordinates v) e → IsShown (coordinates w) e) → Shows t v → Shows t w
same_shows t v w f s = (s.0, (f s.0 s.1.0, s.1.1))

same_live : (v w : StateValue) → AreSameDocument v w → SameMembers (entries_in (live_rows v.lives)) (entries_in (live_rows w.lives))
same_live v w same = record {
  any = λ t. both_ways _ _
      (λ h. shown_passes t w (same_shows t v w (λ e. (same.entries e).0) (some_shows t v h)))
      (λ h. shown_passes t v (same_shows t w v (λ e. (same.entries e).1) (some_shows t w h)));
}

-- ---- counters

abbrev pub at_key : (List ℕ → Bool) → Place × Above → Bool
at_key t e = t e.0.key

abbrev pub Counts : (List ℕ → Bool) → StateValue → Type 0
Counts t v = (k : List ℕ) × (IsCounted (coordinates v) k × (t k ≡ true))

above_none : (o : Option Above) (a : Above) → o ≡ Some a → 0 < number_from o
above_none o a is = rw is (omega arith)

some_of : (o : Option Above) → 0 < number_from o → (a : Above) × (o ≡ Some a)
some_of None lt = absurd (omega arith)
some_of (Some a) lt = (a, refl)

pub some_counts : (t : List ℕ → Bool) (v : StateValue) → list_any (at_key t) (map.entries v.counts) ≡ true → Counts t v
some_counts t v h =
    let p = entry_passes place_total place_exact (at_key t) v.counts h in
    (p.0.key, ((p.0.replica, p.0.which, above_none _ p.1.0 p.1.1.0), p.1.1.1))

pub counted_passes : (t : List ℕ → Bool) (v : StateValue) → Counts t v → list_any (at_key t) (map.entries v.counts) ≡ true
counted_passes t v s =
    let q = place s.0 s.1.0.0 s.1.0.1 in
    let a = some_of (map.get v.counts q) s.1.0.2 in
    passes_entry place_total place_exact (at_key t) v.counts q a.0 a.1 s.1.1

same_counts : (t : List ℕ → Bool) (v w : StateValue) → ((k : List ℕ) → IsCounted (coordinates v) k → IsCounted (coordinates w) k) → Counts t v → Counts t w
same_counts t v w f s = (s.0, (f s.0 s.1.0, s.1.1))

same_keys : (v w : StateValue) → AreSameDocument v w → counted_keys v.counts ≡ counted_keys w.counts
same_keys v w same = once_same nat_list_cmp_total (slice_cmp-IsAntisymmetric nat_cmp-IsAntisymmetric) _ _ (λ q.
    let t = eq_by_cmp key_cmp q in
    any-map t (λ e. e.0.key) (map.entries v.counts)
    ∙ both_ways _ _
    (λ h. counted_passes t w (same_counts t v w (λ k. (same.counted k).0) (some_counts t v h)))
    (λ h. counted_passes t v (same_counts t w v (λ k. (same.counted k).1) (some_counts t w h)))
    ∙ sym (any-map t (λ e. e.0.key) (map.entries w.counts)))

-- the sum in the document is what the counter stands at
pub value_is : (v : StateValue) (key : List ℕ) → value_in (coordinates v) key ≡ value_of v.counts key
value_is v key = refl

same_sums : (v w : StateValue) → AreSameDocument v w → sums_of v.counts ≡ sums_of w.counts
same_sums v w same = (λ i. each (λ k. (k, (sym (value_is v k) ∙ same.sums k ∙ value_is w k) i)) (counted_keys v.counts)) ∙ ap (each (λ k. (k, value_of w.counts k))) (same_keys v w same)

-- ---- both

pub same_documents : (v w : StateValue) → AreSameDocument v w → (path : List (List ℕ)) → view_of (document v) path ≡ view_of (document w) path
same_documents v w same path =
    ap (λ sums. entries_view (counters_shown path sums) path (entries_in (live_rows v.lives))) (same_sums v w same)
    ∙ same_entries_view (counters_shown path (sums_of w.counts)) path _ _ (same_below_path path _ _ (same_live v w
    same))
