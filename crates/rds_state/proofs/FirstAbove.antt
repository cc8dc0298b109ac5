-- The first own number of entries that is above the one here.
use Rattle.std.proofs.Common.{◌≡◌, ℕ, ◌+◌, ◌<◌, ◌≤◌, Bool, true, false, ◌&&◌, ◌==◌, nat_lt, cond, List, [], ◌∷◌, Option}
use Rattle.std.proofs.Common.{Some, None, refl, sym, ◌∙◌, ap, arith}
use Rattle.std.specs.Ordering.{eq_by_cmp, is_eq, is_lt}
use Rattle.std.specs.declared.cmp.Ordering.TheVariants.{Less}
use Rattle.std.specs.FinMap as map
use Rattle.std.specs.FinMap.Entries.{is_sorted, below_all}
use Rattle.std.proofs.lemmas.Bool.Decides.{nat_tests}
use Rattle.std.proofs.lemmas.Cmp.{tied_itself}
use Rattle.rds_names.specs.declared.fault.Own.{Own}
use Rattle.rds_names.specs.declared.fault.Own.TheVariants.{Seq, Plus, Minus}
use Rattle.rds_names.specs.Conditions.{and_left, and_right, less_of, and_true, equal_of}
use Rattle.rds_counts.specs.declared.row.Which.{Which}
use Rattle.rds_counts.specs.declared.row.Which.TheVariants.{P, N}
use Rattle.rds_counts.specs.Place.{Place, place_cmp}
use Rattle.rds_counts.specs.PlaceOrder.{place_total, place_exact}
use Rattle.rds_counts.specs.Counted.{Above, number_from}
use Rattle.rds_state.specs.Ahead.{IsFirstAbove, IsNumberAhead, NumberAhead}

abbrev pub own_number : Which → ℕ → Own
own_number P n = Plus n
own_number N n = Minus n

-- the first of the numbers that is the replica's own and above what is here
abbrev pub first_ahead : (Place → ℕ) → ℕ → List (Place × Above) → Option Own
first_ahead here own [] = None
first_ahead here own (e ∷ es) = cond ((e.0.replica == own) && nat_lt (here e.0) (e.1.before + 1)) (Some (own_number e.0.which (e.1.before + 1))) (first_ahead here own es)

-- the number that entries have at a place
abbrev pub listed : List (Place × Above) → Place → ℕ
listed es q = number_from (map.find place_cmp q es)

none_listed : (q : Place) (es : List (Place × Above)) → below_all place_cmp q es ≡ true → listed es q ≡ 0
none_listed q [] below = refl
none_listed q (e ∷ es) below =
    ap (λ o. number_from (cond (is_eq o) (Some e.1) (map.find place_cmp q es))) (less_of (place_cmp q e.0) (and_left _ (below_all place_cmp q es) below))
    ∙ none_listed q es (and_right (is_lt (place_cmp q e.0)) _ below)

below_earlier : (p q : Place) → place_cmp p q ≡ Less → (es : List (Place × Above)) → below_all place_cmp q es ≡ true → below_all place_cmp p es ≡ true
below_earlier p q less [] below = refl
below_earlier p q less (e ∷ es) below =
    and_true _ _ (ap is_lt (place_total.trans p q e.0 less (less_of (place_cmp q e.0) (and_left _ (below_all place_cmp q es) below))))
    (below_earlier p q less es (and_right (is_lt (place_cmp q e.0)) _ below))

-- an own entry is above the one here, or isn't
own_above : (replica own before n : ℕ) → ((replica == own) && nat_lt before n) ≡ true → (replica ≡ own) × (before < n)
own_above replica own before n is = (grind (arith, nat_tests), grind (arith, nat_tests))

own_known : (replica own before n : ℕ) → ((replica == own) && nat_lt before n) ≡ false → replica ≡ own → n ≤ before
own_known replica own before n is same = grind (arith, nat_tests)

module _ (here : Place → ℕ) (own : ℕ) (e : Place × Above) (es : List (Place × Above)) (below : below_all place_cmp e.0 es ≡ true) where
  listed_at : (q : Place) (b : Bool) → eq_by_cmp place_cmp q e.0 ≡ b → listed (e ∷ es) q ≡ cond b (e.1.before + 1) (listed es q)
  listed_at q true is = ap (λ b. number_from (cond b (Some e.1) (map.find place_cmp q es))) is
  listed_at q false is = ap (λ b. number_from (cond b (Some e.1) (map.find place_cmp q es))) is

  listed_first : listed (e ∷ es) e.0 ≡ e.1.before + 1
  listed_first = listed_at e.0 true (ap is_eq (tied_itself place_total e.0))

  same_place : (q : Place) → eq_by_cmp place_cmp q e.0 ≡ true → q ≡ e.0
  same_place q is = place_exact q e.0 (equal_of (place_cmp q e.0) is)

  -- a later number is the same with the first entry
  later_listed : (q : Place) → 0 < listed es q → listed (e ∷ es) q ≡ listed es q
  later_listed q some = by (eq_by_cmp place_cmp q e.0) refl
    where
      by : (b : Bool) → eq_by_cmp place_cmp q e.0 ≡ b → listed (e ∷ es) q ≡ listed es q
      by true is = let none : listed es q ≡ 0 = ap (listed es) (same_place q is) ∙ none_listed e.0 es below in absurd (omega (arith, none, some))
      by false is = listed_at q false is

  abbrev is_above : Bool
  is_above = (e.0.replica == own) && nat_lt (here e.0) (e.1.before + 1)

  -- a place where no later entry is above stays one
  stays_known : (q : Place) → is_above ≡ false → q.replica ≡ own → listed es q ≤ here q → listed (e ∷ es) q ≤ here q
  stays_known q no_more is known = by (eq_by_cmp place_cmp q e.0) refl
    where
      by : (b : Bool) → eq_by_cmp place_cmp q e.0 ≡ b → listed (e ∷ es) q ≤ here q
      by true same =
          let at = same_place q same in
          let first = own_known e.0.replica own (here e.0) (e.1.before + 1) no_more (ap (λ (p : Place). p.replica) (sym at) ∙ is) in
          let value = listed_at q true same in
          let same_here : here q ≡ here e.0 = ap here at in
          omega (arith, first, value, same_here)
      by false other = let value = listed_at q false other in omega (arith, value, known)

  nothing_before : (p : Place) → place_cmp p e.0 ≡ Less → listed (e ∷ es) p ≡ 0
  nothing_before p less = none_listed p (e ∷ es) (and_true _ _ (ap is_lt less) (below_earlier p e.0 less es below))

  first_is_first : is_above ≡ true → IsFirstAbove here own (listed (e ∷ es)) e.0
  first_is_first is =
      let both = own_above e.0.replica own (here e.0) (e.1.before + 1) is in
      record {
        own_place = both.0;
        above = let value = listed_first in let more = both.1 in omega (arith, value, more);
        first = λ p mine less. let none = nothing_before p less in omega (arith, none);
      }

  at_first : is_above ≡ true → (w : Which) → e.0.which ≡ w → NumberAhead here own (listed (e ∷ es)) (Some (own_number w (e.1.before + 1)))
  at_first is P kind = record { place = e.0; is_first = first_is_first is; is_which = kind; is_sent = listed_first }
  at_first is N kind = record { place = e.0; is_first = first_is_first is; is_which = kind; is_sent = listed_first }

  moved : is_above ≡ false → (w : Which) (n : ℕ) → IsNumberAhead here own (listed es) w n → IsNumberAhead here own (listed (e ∷ es)) w n
  moved no_more w n h =
      let above = h.is_first.above in
      let value = later_listed h.place (omega (arith, above)) in
      record {
        place = h.place;
        is_first = record {
          own_place = h.is_first.own_place;
          above = omega (arith, above, value);
          first = λ p mine less. stays_known p no_more mine (h.is_first.first p mine less);
        };
        is_which = h.is_which;
        is_sent = value ∙ h.is_sent;
      }

  at_later : is_above ≡ false → (o : Option Own) → NumberAhead here own (listed es) o → NumberAhead here own (listed (e ∷ es)) o
  at_later no_more None known = λ q mine. stays_known q no_more mine (known q mine)
  at_later no_more (Some (Seq n)) h = h
  at_later no_more (Some (Plus n)) h = moved no_more P n h
  at_later no_more (Some (Minus n)) h = moved no_more N n h

  with_first : (b : Bool) → is_above ≡ b → (o : Option Own) → NumberAhead here own (listed es) o → NumberAhead here own (listed (e ∷ es)) (cond b (Some (own_number e.0.which (e.1.before + 1))) o)
  with_first true is o h = at_first is e.0.which refl
  with_first false is o h = at_later is o h

-- what the search in ascending entries finds is the first own number above
pub first_ahead_is : (here : Place → ℕ) (own : ℕ) (es : List (Place × Above)) → is_sorted place_cmp es ≡ true → NumberAhead here own (listed es) (first_ahead here own es)
first_ahead_is here own [] rise = λ q mine. omega arith
first_ahead_is here own (e ∷ es) rise =
    with_first here own e es (and_left _ (is_sorted place_cmp es) rise) ((e.0.replica == own) && nat_lt (here e.0) (e.1.before + 1)) refl (first_ahead here own es)
    (first_ahead_is here own es (and_right (below_all place_cmp e.0 es) _ rise))
