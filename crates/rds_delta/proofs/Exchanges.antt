-- Between friends the least delta is taken.
use Rattle.std.proofs.Common.{◌≡◌, ◌⊎◌, ℕ, ◌<◌, ◌≤◌, Bool, true, false, cond, nat_lt, Option, None, Result, Ok, Err}
use Rattle.std.proofs.Common.{sym, subst, arith}
use Rattle.std.specs.Prelude.{is_some}
use mathlib.Core.Bool.{false≢true}
use Rattle.std.proofs.lemmas.Bool.Decides.{nat_tests}
use Rattle.rds_names.specs.declared.fault.Fault.{Fault}
use Rattle.rds_names.specs.declared.fault.Fault.TheVariants.{Memory}
use Rattle.rds_dots.specs.Lacking.{dot_of}
use Rattle.rds_life.specs.Life.{Life}
use Rattle.rds_state.specs.Ahead.{TakeGives}
use Rattle.rds_state.specs.Coordinates.{Coordinates, AreCompatible}
use Rattle.rds_state.specs.Fits.{Fits}
use Rattle.rds_state.specs.Friends.{AreFriends, KnowsItsOwn}
use Rattle.rds_state.specs.Value.{StateValue, coordinates}
use Rattle.rds_state.proofs.FriendLemmas.{may_take_is_taken}
use Rattle.rds_delta.specs.Least.{least}
use Rattle.rds_delta.specs.Ranks.{Ranks, life_rank}
use Rattle.rds_delta.proofs.LeastLaws.{compatible_sym, compatible_least}

kept_seen : (t : Bool) (a : Option Life) → is_some (cond t a None) ≡ true → is_some a ≡ true
kept_seen true a h = h
kept_seen false a h = absurd (false≢true h)

kept_above : (a b : ℕ) → 0 < cond (nat_lt b a) a 0 → 0 < a
kept_above a b h = grind (arith, nat_tests)

kept_within : (a b m : ℕ) → a ≤ m → cond (nat_lt b a) a 0 ≤ m
kept_within a b m h = grind (arith, nat_tests)

pub least_fits : (replicas : ℕ) (a : Coordinates) (b : Ranks) → Fits replicas a → Fits replicas (least a b)
least_fits replicas a b fits = record {
  dots = λ d h. fits.dots d (kept_seen (nat_lt (b.rank d) (life_rank (a.life d))) (a.life d) h);
  numbers = λ q h. fits.numbers q (kept_above (a.number q) (b.number q) h);
}

-- what a replica knows of its own it knows of a part of the other's
least_known : (own : ℕ) (its a : Coordinates) (b : Ranks) → KnowsItsOwn own its a → KnowsItsOwn own its (least a b)
least_known own its a b knows = record {
  dots = λ n h. knows.dots n (kept_seen _ (a.life (dot_of own n)) h);
  numbers = λ q is. kept_within (a.number q) (b.number q) (its.number q) (knows.numbers q is);
}

pub least_is_taken : (left right : ℕ) (a b d : StateValue) (asked : Ranks) (answer : Result (Unit {0}) Fault) → AreFriends left (coordinates a) right (coordinates b) → coordinates d ≡ least (coordinates a) asked → TakeGives b right d answer → (answer ≡ Ok tt) ⊎ (answer ≡ Err Memory)
least_is_taken left right a b d asked answer friends is gives =
    may_take_is_taken right b d answer
    (record {
      compatible = subst (AreCompatible (coordinates b)) (sym is) (compatible_least (coordinates a) asked (coordinates b) (compatible_sym (coordinates a) (coordinates b) friends.compatible));
      knows = subst (KnowsItsOwn right (coordinates b)) (sym is) (least_known right (coordinates b) (coordinates a) asked friends.right_knows);
    })
    gives
