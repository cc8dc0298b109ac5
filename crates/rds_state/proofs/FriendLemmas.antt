-- A friend's state is ahead in nothing, and in conflict with nothing.
use Rattle.std.proofs.Common.{◌≡◌, ℕ, ◌⊎◌, Some, Result, Ok, Err, refl, sym, ◌∙◌, inl, inr}
use mathlib.Core.Bool.{false≢true}
use Rattle.rds_names.specs.declared.fault.Own.{Own}
use Rattle.rds_names.specs.declared.fault.Own.TheVariants.{Seq, Plus, Minus}
use Rattle.rds_names.specs.declared.fault.Fault.{Fault}
use Rattle.rds_names.specs.declared.fault.Fault.TheVariants.{Memory, Conflict, OwnAhead}
use Rattle.rds_counts.specs.declared.row.Which.TheVariants.{P, N}
use Rattle.rds_dots.specs.Lacking.{dot_of}
use Rattle.rds_life.proofs.Views.{contains-seen_of}
use Rattle.rds_state.specs.Value.{StateValue, coordinates}
use Rattle.rds_state.specs.Ahead.{Ahead, TakeGives}
use Rattle.rds_state.specs.Friends.{AreFriends, KnowsItsOwn, MayTake}
use Rattle.rds_state.proofs.OneAhead.{knows_none}

never_ahead : (own : ℕ) (a d : StateValue) → KnowsItsOwn own (coordinates a) (coordinates d) → (o : Own) → Ahead a own d (Some o) → ⊥
never_ahead own a d knows (Seq n) ahead =
    false≢true (sym ahead.lacking ∙ contains-seen_of a.lives (dot_of own n) ∙ knows.dots n (sym (contains-seen_of d.lives (dot_of own n)) ∙ ahead.there))
never_ahead own a d knows (Plus n) ahead = knows_none _ own _ P n knows.numbers ahead.1
never_ahead own a d knows (Minus n) ahead = knows_none _ own _ N n knows.numbers ahead.1

-- what a replica may take is taken
pub may_take_is_taken : (own : ℕ) (a d : StateValue) (answer : Result (Unit {0}) Fault) → MayTake own (coordinates a) (coordinates d) → TakeGives a own d answer → (answer ≡ Ok tt) ⊎ (answer ≡ Err Memory)
may_take_is_taken own a d (Ok x) may gives = inl refl
may_take_is_taken own a d (Err Memory) may gives = inr refl
may_take_is_taken own a d (Err (OwnAhead o)) may gives = absurd (never_ahead own a d may.knows o gives)
may_take_is_taken own a d (Err (Conflict r n)) may gives = absurd (gives.1.here (may.compatible.each_dot (record { replica = r; seq = n })))
may_take_is_taken own a d (Err f) may gives = absurd gives.1

pub friends_are_taken : (own peer : ℕ) (a d : StateValue) (answer : Result (Unit {0}) Fault) → AreFriends own (coordinates a) peer (coordinates d) → TakeGives a own d answer → (answer ≡ Ok tt) ⊎ (answer ≡ Err Memory)
friends_are_taken own peer a d answer friends gives = may_take_is_taken own a d answer (record { compatible = friends.compatible; knows = friends.left_knows }) gives
