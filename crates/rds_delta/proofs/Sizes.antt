-- A state that is at most another has at most as many components.
use Rattle.std.proofs.Common.{◌≡◌, ◌≤◌, true, false, cond, List, [], ◌∷◌, length, Option, Some, None, refl, sym, ◌∙◌}
use Rattle.std.proofs.Common.{ap, arith}
use Rattle.std.specs.Prelude.{is_some}
use mathlib.Core.Bool.{false≢true}
use Rattle.std.specs.Ordering.{is_lt, is_eq, eq_by_cmp, ordering_reverse}
use Rattle.std.specs.declared.cmp.Ordering.{Ordering}
use Rattle.std.specs.declared.cmp.Ordering.TheVariants.{Less, Equal, Greater}
use Rattle.std.specs.Cmp.{IsTotalOrder}
use Rattle.std.specs.FinMap as map
use Rattle.std.specs.FinMap.Entries.{find, is_sorted, below_all}
use Rattle.std.proofs.lemmas.Cmp.{tied_itself}
use Rattle.rds_names.specs.Conditions.{true_of, equal_of, and_true, and_left, and_right, less_of}
use Rattle.rds_dots.specs.Order.{dots_total, dots_exact}
use Rattle.rds_life.specs.Life.{Life, Live, Dead, IsNoLater}
use Rattle.rds_counts.specs.PlaceOrder.{place_total, place_exact}
use Rattle.rds_counts.specs.Counted.{Above, number_from}
use Rattle.rds_state.specs.Coordinates.{AtMost}
use Rattle.rds_state.specs.Value.{StateValue, coordinates, size}

module _ {K X : Type 0} (R : K → K → Ordering) (total : IsTotalOrder R) (exact : (x y : K) → R x y ≡ Equal → x ≡ y) where
  less_below : (x y : K) → R x y ≡ Less → (es : List (K × X)) → below_all R y es ≡ true → below_all R x es ≡ true
  less_below x y less [] below = refl
  less_below x y less (e ∷ es) below =
      and_true _ _ (ap is_lt (total.trans x y e.0 less (less_of (R y e.0) (and_left _ (below_all R y es) below))))
      (less_below x y less es (and_right (is_lt (R y e.0)) _ below))

  pub no_entry : (x : K) (es : List (K × X)) → below_all R x es ≡ true → find R x es ≡ None
  no_entry x [] below = refl
  no_entry x (e ∷ es) below =
      ap (λ o. cond (is_eq o) (Some e.1) (find R x es)) (less_of (R x e.0) (and_left _ (below_all R x es) below))
      ∙ no_entry x es (and_right (is_lt (R x e.0)) _ below)

  first_found : (e : K × X) (es : List (K × X)) → is_some (find R e.0 (e ∷ es)) ≡ true
  first_found e es = ap (λ o. is_some (cond (is_eq o) (Some e.1) (find R e.0 es))) (tied_itself total e.0)

  -- a key that the first entry hasn't is found among the others
  past_first : (q : K) (f : K × X) (fs : List (K × X)) → (q ≡ f.0 → ⊥) → is_some (find R q (f ∷ fs)) ≡ true → is_some (find R q fs) ≡ true
  past_first q f fs other found =
      elim (eq_by_cmp R q f.0) as (λ b. eq_by_cmp R q f.0 ≡ b → is_some (cond b (Some f.1) (find R q fs)) ≡ true → is_some (find R q fs) ≡ true) [
        | true ↦ λ is _. absurd (other (exact q f.0 (equal_of (R q f.0) is)))
        | false ↦ λ _ h. h
      ] refl found

  not_found : (q : K) (es : List (K × X)) → find R q es ≡ None → is_some (find R q es) ≡ true → ⊥
  not_found q es none found = false≢true (sym (ap is_some none) ∙ found)

  later_found : (q : K) (e : K × X) (es : List (K × X)) → is_some (find R q es) ≡ true → is_some (find R q (e ∷ es)) ≡ true
  later_found q e es found = elim (eq_by_cmp R q e.0) as (λ b. is_some (cond b (Some e.1) (find R q es)) ≡ true) [ true ↦ refl | false ↦ found ]

  -- entries whose keys are all found among others are at most as many
  pub fewer_entries : (es fs : List (K × X)) → is_sorted R es ≡ true → is_sorted R fs ≡ true → ((q : K) → is_some (find R q es) ≡ true → is_some (find R q fs) ≡ true) → length es ≤ length fs
  fewer_entries [] fs rise rise' found = omega arith
  fewer_entries (e ∷ es) [] rise rise' found = absurd (false≢true (found e.0 (first_found e es)))
  fewer_entries (e ∷ es) (f ∷ fs) rise rise' found =
      by_order
      (fewer_entries es fs (and_right (below_all R e.0 es) _ rise) (and_right (below_all R f.0 fs) _ rise'))
      (fewer_entries (e ∷ es) fs rise (and_right (below_all R f.0 fs) _ rise'))
      (R e.0 f.0) refl
    where
      below : below_all R e.0 es ≡ true
      below = and_left _ (is_sorted R es) rise

      below' : below_all R f.0 fs ≡ true
      below' = and_left _ (is_sorted R fs) rise'

      by_order : (((q : K) → is_some (find R q es) ≡ true → is_some (find R q fs) ≡ true) → length es ≤ length fs)
          → (((q : K) → is_some (find R q (e ∷ es)) ≡ true → is_some (find R q fs) ≡ true) → length (e ∷ es) ≤ length fs)
          → (o : Ordering) → R e.0 f.0 ≡ o → length (e ∷ es) ≤ length (f ∷ fs)
      by_order both past Less is = absurd (not_found e.0 (f ∷ fs) (no_entry e.0 (f ∷ fs) (and_true _ _ (ap is_lt is) (less_below e.0 f.0 is fs below'))) (found e.0 (first_found e es)))
      by_order both past Equal is =
          let same = exact e.0 f.0 is in
          let again = both (λ q h.
          past_first q f fs (λ at. not_found e.0 es (no_entry e.0 es below) (ap (λ x. is_some (find R x es)) (same ∙ sym at) ∙ h)) (found q (later_found q e es h))) in
          omega (arith, again)
      by_order both past Greater is =
          let less : R f.0 e.0 ≡ Less = total.antisymm f.0 e.0 ∙ ap ordering_reverse is in
          let none = no_entry f.0 (e ∷ es) (and_true _ _ (ap is_lt less) (less_below f.0 e.0 less es below)) in
          let again = past (λ q h.
          past_first q f fs (λ at. not_found f.0 (e ∷ es) none (ap (λ x. is_some (find R x (e ∷ es))) (sym at) ∙ h)) (found q h)) in
          omega (arith, again)

  pub len_at_most : (m n : map.FinMap R X) → ((q : K) → is_some (map.get m q) ≡ true → is_some (map.get n q) ≡ true) → map.len m ≤ map.len n
  len_at_most m n found =
      let fewer = fewer_entries (map.entries m) (map.entries n) (true_of _ (map.entries_sorted m)) (true_of _ (map.entries_sorted n)) (λ q h.
      ap is_some (sym (map.get-entries n q)) ∙ found q (ap is_some (map.get-entries m q) ∙ h)) in
      let left = map.len-entries m in
      let right = map.len-entries n in
      omega (arith, fewer, left, right)

no_later_seen : (a b : Option Life) → IsNoLater a b → is_some a ≡ true → is_some b ≡ true
no_later_seen None b h some = absurd (false≢true some)
no_later_seen (Some (Live e)) None h some = absurd h
no_later_seen (Some (Live e)) (Some l) h some = refl
no_later_seen (Some Dead) None h some = absurd h
no_later_seen (Some Dead) (Some l) h some = refl

above_there : (a b : Option Above) → number_from a ≤ number_from b → is_some a ≡ true → is_some b ≡ true
above_there None b h some = absurd (false≢true some)
above_there (Some x) None h some = absurd (omega arith)
above_there (Some x) (Some y) h some = refl

pub size_at_most : (v w : StateValue) → AtMost (coordinates v) (coordinates w) → size v ≤ size w
size_at_most v w h =
    let lives = len_at_most _ dots_total dots_exact v.lives w.lives (λ d. no_later_seen (map.get v.lives d) (map.get w.lives d) (h.lives d)) in
    let counts = len_at_most _ place_total place_exact v.counts w.counts (λ q. above_there (map.get v.counts q) (map.get w.counts q) (h.numbers q)) in
    omega (arith, lives, counts)
