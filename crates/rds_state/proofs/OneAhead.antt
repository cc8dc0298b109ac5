-- There is one thing that a delta has ahead, or nothing.
use Rattle.std.proofs.Common.{◌≡◌, ℕ, ◌⊎◌, inl, inr, Option, Some, None, Result, Ok, Err, refl, sym, ◌∙◌, ap, arith}
use mathlib.Core.Bool.{false≢true}
use Rattle.std.specs.Prelude.{◌≢◌}
use Rattle.std.specs.Ordering.{ordering_reverse}
use Rattle.std.specs.declared.cmp.Ordering.{Ordering}
use Rattle.std.specs.declared.cmp.Ordering.TheVariants.{Less, Equal, Greater}
use Rattle.std.proofs.lemmas.Bool.{cases_lt}
use Rattle.rds_names.specs.declared.fault.Own.{Own}
use Rattle.rds_names.specs.declared.fault.Own.TheVariants.{Seq, Plus, Minus}
use Rattle.rds_names.specs.declared.fault.Fault.{Fault}
use Rattle.rds_names.specs.declared.fault.Fault.TheVariants.{Memory, OwnAhead}
use Rattle.rds_dots.specs.Dots.{Dots}
use Rattle.rds_dots.specs.Lacking.{HasAll, IsFirstLacking}
use Rattle.rds_counts.specs.declared.row.Which.{Which}
use Rattle.rds_counts.specs.declared.row.Which.TheVariants.{P, N}
use Rattle.rds_counts.specs.Place.{Place, place_cmp}
use Rattle.rds_counts.specs.PlaceOrder.{place_total, place_exact}
use Rattle.rds_life.specs.Life.{MergeGives}
use Rattle.rds_life.proofs.LivedLemmas.{one_answer}
use Rattle.rds_state.specs.Ahead.{Ahead, IsFirstAbove, IsNumberAhead, KnowsNumbers, TakeGives}
use Rattle.rds_state.specs.Value.{StateValue}

-- ---- dots

lacks_none : (s t : Dots) (own n : ℕ) → HasAll s t own → IsFirstLacking s t own n → ⊥
lacks_none s t own n all lacks = false≢true (sym lacks.lacking ∙ all n lacks.there)

one_lacking : (s t : Dots) (own n m : ℕ) → IsFirstLacking s t own n → IsFirstLacking s t own m → n ≡ m
one_lacking s t own n m one other = elim (cases_lt n m) [
  | inl less ↦ absurd (false≢true (sym one.lacking ∙ other.first n less one.there))
  | inr from ↦ elim (cases_lt m n) [
    | inl less ↦ absurd (false≢true (sym other.lacking ∙ one.first m less other.there))
    | inr to ↦ omega (arith, from, to)
  ]
]

-- ---- numbers

module _ (here : Place → ℕ) (own : ℕ) (sent : Place → ℕ) where
  pub knows_none : (w : Which) (n : ℕ) → KnowsNumbers here own sent → IsNumberAhead here own sent w n → ⊥
  knows_none w n knows ahead =
      let above = ahead.is_first.above in
      let known = knows ahead.place ahead.is_first.own_place in
      omega (arith, above, known)

  one_first : (p q : Place) → IsFirstAbove here own sent p → IsFirstAbove here own sent q → p ≡ q
  one_first p q one other = by (place_cmp p q) refl
    where
      by : (o : Ordering) → place_cmp p q ≡ o → p ≡ q
      by Less is = let above = one.above in let known = other.first p one.own_place is in absurd (omega (arith, above, known))
      by Equal is = place_exact p q is
      by Greater is = let above = other.above in let known = one.first q other.own_place (place_total.antisymm q p ∙ ap ordering_reverse is) in absurd (omega (arith, above, known))

  one_number : (v w : Which) (n m : ℕ) → IsNumberAhead here own sent v n → IsNumberAhead here own sent w m → (v ≡ w) × (n ≡ m)
  one_number v w n m one other =
      let same = one_first one.place other.place one.is_first other.is_first in
      (sym one.is_which ∙ ap (λ (q : Place). q.which) same ∙ other.is_which, sym one.is_sent ∙ ap sent same ∙ other.is_sent)

-- ---- both

module _ (a : StateValue) (own : ℕ) (d : StateValue) where
  one_ahead : (o p : Option Own) → Ahead a own d o → Ahead a own d p → o ≡ p
  one_ahead None None one other = refl
  one_ahead None (Some (Seq m)) one other = absurd (lacks_none _ _ own m one.0 other)
  one_ahead None (Some (Plus m)) one other = absurd (knows_none _ own _ P m one.1 other.1)
  one_ahead None (Some (Minus m)) one other = absurd (knows_none _ own _ N m one.1 other.1)
  one_ahead (Some (Seq n)) None one other = absurd (lacks_none _ _ own n other.0 one)
  one_ahead (Some (Seq n)) (Some (Seq m)) one other = ap (λ k. Some (Seq k)) (one_lacking _ _ own n m one other)
  one_ahead (Some (Seq n)) (Some (Plus m)) one other = absurd (lacks_none _ _ own n other.0 one)
  one_ahead (Some (Seq n)) (Some (Minus m)) one other = absurd (lacks_none _ _ own n other.0 one)
  one_ahead (Some (Plus n)) None one other = absurd (knows_none _ own _ P n other.1 one.1)
  one_ahead (Some (Plus n)) (Some (Seq m)) one other = absurd (lacks_none _ _ own m one.0 other)
  one_ahead (Some (Plus n)) (Some (Plus m)) one other = ap (λ k. Some (Plus k)) (one_number _ own _ P P n m one.1 other.1).1
  one_ahead (Some (Plus n)) (Some (Minus m)) one other = let same = (one_number _ own _ P N n m one.1 other.1).0 in absurd (cc)
  one_ahead (Some (Minus n)) None one other = absurd (knows_none _ own _ N n other.1 one.1)
  one_ahead (Some (Minus n)) (Some (Seq m)) one other = absurd (lacks_none _ _ own m one.0 other)
  one_ahead (Some (Minus n)) (Some (Plus m)) one other = let same = (one_number _ own _ N P n m one.1 other.1).0 in absurd (cc)
  one_ahead (Some (Minus n)) (Some (Minus m)) one other = ap (λ k. Some (Minus k)) (one_number _ own _ N N n m one.1 other.1).1

  -- a take answers with what is ahead, or as a merge does
  taken_apart : (r : Result (Unit {0}) Fault) → TakeGives a own d r → ((o : Own) × ((r ≡ Err (OwnAhead o)) × Ahead a own d (Some o))) ⊎ (Ahead a own d None × MergeGives a.lives d.lives r)
  taken_apart (Ok x) gives = inr gives
  taken_apart (Err (OwnAhead o)) gives = inl (o, (refl, gives))
  taken_apart (Err f) gives = inr gives

  -- so it has one answer, where there is memory
  pub one_take : (r s : Result (Unit {0}) Fault) → TakeGives a own d r → TakeGives a own d s → r ≢ Err Memory → s ≢ Err Memory → r ≡ s
  one_take r s one other room_r room_s = elim (taken_apart r one) [
    | inl x ↦ elim (taken_apart s other) [
      | inl y ↦ let same : Some x.0 ≡ Some y.0 = one_ahead _ _ x.1.1 y.1.1 in cc (x.1.0, y.1.0, same)
      | inr y ↦ let none : Some x.0 ≡ None = one_ahead _ _ x.1.1 y.0 in absurd (cc none)
    ]
    | inr x ↦ elim (taken_apart s other) [
      | inl y ↦ let none : Some y.0 ≡ None = one_ahead _ _ y.1.1 x.0 in absurd (cc none)
      | inr y ↦ one_answer a.lives d.lives r s x.1 y.1 room_r room_s
    ]
  ]
