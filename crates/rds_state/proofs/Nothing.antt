-- A delta without components.
use Rattle.std.proofs.Common.{◌≡◌, ℕ, Bool, true, false, max, sym, ◌∙◌, ap, subst, arith}
use Rattle.std.proofs.Math.Nat.{max-zero}
use Rattle.std.specs.Prelude.{Option, Some, None, Result, Ok, Err, OnOk, is_some}
use Rattle.std.specs.FinMap as map
use Rattle.rds_names.specs.declared.fault.Fault.{Fault}
use Rattle.rds_dots.specs.declared.dot.Dot.{Dot}
use Rattle.rds_dots.specs.Dots.{dot_cmp}
use Rattle.rds_dots.specs.Lacking.{HasAll, dot_of}
use Rattle.rds_counts.specs.Counted.{Counted, number, number_from}
use Rattle.rds_counts.specs.Place.{Place, place_cmp}
use Rattle.rds_life.specs.Life.{Agree, IsJoin, Life, Live, Dead, Lived, join_life, seen_of}
use Rattle.rds_life.proofs.LifeOrder.{join_none}
use Rattle.rds_life.proofs.Views.{contains-seen_of}
use Rattle.rds_state.specs.Ahead.{KnowsNumbers, TakeGives}
use Rattle.rds_state.specs.Coordinates.{join}
use Rattle.rds_state.specs.Value.{StateValue, coordinates, size}

module _ (d : StateValue) (none : size d ≡ 0) where
  no_lives : d.lives ≡ map.empty
  no_lives = map.empty_of_len d.lives (omega (arith, none))

  no_counts : d.counts ≡ map.empty
  no_counts = map.empty_of_len d.counts (omega (arith, none))

  no_life : (q : Dot) → map.get d.lives q ≡ None
  no_life q = ap (λ (v : Lived). map.get v q) no_lives ∙ map.get-empty dot_cmp q

  no_number : (q : Place) → number d.counts q ≡ 0
  no_number q = ap (λ (v : Counted). number v q) no_counts ∙ ap number_from (map.get-empty place_cmp q)

  -- it may be taken
  pub takes_nothing : (a : StateValue) (own : ℕ) → TakeGives {T = Unit {0}} a own d (Ok tt)
  takes_nothing a own = ((has_all, knows), record { each_dot = λ q. subst (Agree (map.get a.lives q)) (sym (no_life q)) (agrees (map.get a.lives q)) })
    where
      unseen : (x : Bool) → x ≡ false → x ≡ true → ⊥
      unseen true h g = absurd (cc)
      unseen false h g = absurd (cc)

      has_all : HasAll (seen_of a.lives) (seen_of d.lives) own
      has_all n h = absurd (unseen _ (contains-seen_of d.lives (dot_of own n) ∙ ap is_some (no_life (dot_of own n))) h)

      knows : KnowsNumbers (number a.counts) own (number d.counts)
      knows q is = let zero_there = no_number q in omega (arith, zero_there)

      agrees : (x : Option Life) → Agree x None
      agrees None = tt
      agrees (Some (Live e)) = tt
      agrees (Some Dead) = tt

  -- and changes nothing
  pub joins_nothing : (a : StateValue) → coordinates a ≡ join (coordinates a) (coordinates d)
  joins_nothing a = λ i. record { life = λ q. lives q i; number = λ q. numbers q i }
    where
      lives : (q : Dot) → map.get a.lives q ≡ join_life (map.get a.lives q) (map.get d.lives q)
      lives q = sym (join_none (map.get a.lives q)) ∙ ap (join_life (map.get a.lives q)) (sym (no_life q))

      numbers : (q : Place) → number a.counts q ≡ max (number a.counts q) (number d.counts q)
      numbers q = sym (max-zero (number a.counts q)) ∙ ap (max (number a.counts q)) (sym (no_number q))

-- where lives are joined and numbers too, states are
pub joins_parts : (a b c : StateValue) → IsJoin a.lives b.lives c.lives → ((q : Place) → number c.counts q ≡ max (number a.counts q) (number b.counts q)) → coordinates c ≡ join (coordinates a) (coordinates b)
joins_parts a b c lives numbers = λ i. record { life = λ d. lives.each_dot d i; number = λ q. numbers q i }

-- and where the lives may be refused
pub joins_lives : (a b c : StateValue) (r : Result (Unit {0}) Fault) → OnOk r (IsJoin a.lives b.lives c.lives) → ((q : Place) → number c.counts q ≡ max (number a.counts q) (number b.counts q)) → OnOk r (coordinates c ≡ join (coordinates a) (coordinates b))
joins_lives a b c (Ok x) lives numbers = joins_parts a b c lives numbers
joins_lives a b c (Err f) lives numbers = tt
