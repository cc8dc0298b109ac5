-- Two replicas of one group that have both followed the rules.
use Rattle.std.specs.Prelude.{◌≡◌, ℕ, ◌≤◌, ◌⊎◌, true, is_some, Result, Ok, Err}
use Rattle.rds_names.specs.declared.fault.Fault.{Fault}
use Rattle.rds_names.specs.declared.fault.Fault.TheVariants.{Memory}
use Rattle.rds_dots.specs.Lacking.{dot_of}
use Rattle.rds_counts.specs.Place.{Place}
use Rattle.rds_state.specs.Coordinates.{Coordinates, AreCompatible}
use Rattle.rds_state.specs.Value.{StateValue, coordinates}
use Rattle.rds_state.specs.Ahead.{TakeGives}

-- a replica, by its number, has all that another's state has of the replica's own
pub record KnowsItsOwn (own : ℕ) (its others : Coordinates) : Type 0 where
  pub dots : (n : ℕ) → is_some (others.life (dot_of own n)) ≡ true → is_some (its.life (dot_of own n)) ≡ true
  pub numbers : (q : Place) → q.replica ≡ own → others.number q ≤ its.number q

-- they are compatible, and neither has of the other's own what the other lacks
pub record AreFriends (left : ℕ) (a : Coordinates) (right : ℕ) (b : Coordinates) : Type 0 where
  pub compatible : AreCompatible a b
  pub left_knows : KnowsItsOwn left a b
  pub right_knows : KnowsItsOwn right b a

-- what a replica may take: it is compatible, and has nothing of the replica's own that the replica lacks
pub record MayTake (own : ℕ) (a d : Coordinates) : Type 0 where
  pub compatible : AreCompatible a d
  pub knows : KnowsItsOwn own a d

-- what a take answers for a friend's state: nothing is refused, but for Memory
abbrev pub FriendsAreTaken : Type 0
FriendsAreTaken = (own peer : ℕ) (a d : StateValue) (answer : Result (Unit {0}) Fault)
    → AreFriends own (coordinates a) peer (coordinates d) → TakeGives a own d answer → (answer ≡ Ok tt) ⊎ (answer ≡ Err Memory)
