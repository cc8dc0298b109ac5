-- What holds of the states that a world has now, and is kept by every event.
use Rattle.std.specs.Prelude.{◌≡◌, ◌≢◌, ◌⊎◌, ◌<◌, ◌≤◌, ℕ, List, length, Option, Some, None, Result, Ok, Err, slice_get}
use Rattle.rds_names.specs.declared.fault.Fault.{Fault}
use Rattle.rds_names.specs.declared.fault.Fault.TheVariants.{Memory as NoMemory}
use Rattle.rds_state.specs.Ahead.{TakeGives}
use Rattle.rds_state.specs.Coordinates.{Coordinates, AtMost, AreCompatible}
use Rattle.rds_state.specs.Edit.{JoinsEffect}
use Rattle.rds_state.specs.Fits.{Fits}
use Rattle.rds_state.specs.Friends.{KnowsItsOwn, AreFriends, MayTake}
use Rattle.rds_state.specs.Value.{StateValue, coordinates}
use Rattle.rds_state.specs.declared.command.Command.{Command}
use Rattle.rds_delta.specs.Ranks.{ranks}
use Rattle.rds_delta.specs.Least.{IsAbove}
use Rattle.rds_world.specs.declared.event.Event.{Event}
use Rattle.rds_world.specs.World.{World, Question, Reply, initial_world, after_edit, after, refusal_of}

-- where a state stands in a world
pub data Position : Type 0 where
  AtMemory : ℕ → Position
  AtKept : ℕ → Position
  AtAsk : ℕ → Position
  AtAnswer : ℕ → Position

abbrev pub state_asked : Option Question → Option Coordinates
state_asked None = None
state_asked (Some q) = Some q.state

abbrev pub state_answered : Option Reply → Option Coordinates
state_answered None = None
state_answered (Some m) = Some m.state

abbrev pub state_at_position : World → Position → Option Coordinates
state_at_position w (AtMemory r) = Some (w.memory r)
state_at_position w (AtKept r) = Some (w.kept r)
state_at_position w (AtAsk k) = state_asked (slice_get w.asks k)
state_at_position w (AtAnswer k) = state_answered (slice_get w.answers k)

-- a replica's memory, or what it has kept
pub data Store : Type 0 where
  Memory : Store
  Kept : Store

abbrev pub state_in : World → Store → ℕ → Coordinates
state_in w Memory r = w.memory r
state_in w Kept r = w.kept r

-- an answer's ask is there, and of the same asker; all of its delta is above what was asked from
pub record AnswersIts (asks : List Question) (m : Reply) : Type 0 where
  pub question : Question
  pub asked : slice_get asks m.question ≡ Some question
  pub asker : m.asker ≡ question.asker
  pub above : IsAbove m.state (ranks question.state)

pub record IsCoherent (w : World) : Type 0 where
  -- every two of all states are compatible
  pub compatible : (p q : Position) (a b : Coordinates) → state_at_position w p ≡ Some a → state_at_position w q ≡ Some b → AreCompatible a b
  -- every state speaks of the roster's replicas alone
  pub fits : (p : Position) (a : Coordinates) → state_at_position w p ≡ Some a → Fits w.replicas a
  -- what others have of a replica, it has kept
  pub in_memory : (r s : ℕ) → r ≢ s → KnowsItsOwn s (w.kept s) (w.memory r)
  pub in_kept : (r s : ℕ) → KnowsItsOwn s (w.kept s) (w.kept r)
  pub in_asks : (k : ℕ) (q : Question) → slice_get w.asks k ≡ Some q → (s : ℕ) → KnowsItsOwn s (w.kept s) q.state
  pub in_answers : (k : ℕ) (m : Reply) → slice_get w.answers k ≡ Some m → (s : ℕ) → KnowsItsOwn s (w.kept s) m.state
  -- what is kept lies below memory, and what was sent below what its sender has kept
  pub kept_below : (r : ℕ) → AtMost (w.kept r) (w.memory r)
  pub asks_below : (k : ℕ) (q : Question) → slice_get w.asks k ≡ Some q → AtMost q.state (w.kept q.asker)
  pub answers_below : (k : ℕ) (m : Reply) → slice_get w.answers k ≡ Some m → AtMost m.state (w.kept m.maker)
  -- who asked and who answered is of the roster
  pub askers : (k : ℕ) (q : Question) → slice_get w.asks k ≡ Some q → q.asker < w.replicas
  pub makers : (k : ℕ) (m : Reply) → slice_get w.answers k ≡ Some m → m.maker < w.replicas
  pub answers_its : (k : ℕ) (m : Reply) → slice_get w.answers k ≡ Some m → AnswersIts w.asks m

abbrev pub StartsCoherent : Type 0
StartsCoherent = (ns : List (List ℕ)) → IsCoherent (initial_world ns)

abbrev pub KeepsCoherence : Type 0
KeepsCoherence = (w : World) (e : Event) → IsCoherent w → refusal_of w e ≡ None → IsCoherent (after w e)

-- every state of one replica and every state of another are friends
abbrev pub ReplicasAreFriends : World → Type 0
ReplicasAreFriends w = (x y : Store) (r s : ℕ) → r ≢ s → AreFriends r (state_in w x r) s (state_in w y s)

-- the asker may take each answer, at any time
abbrev pub AnswersMayBeTaken : World → Type 0
AnswersMayBeTaken w = (k : ℕ) (m : Reply) → slice_get w.answers k ≡ Some m → MayTake m.asker (w.memory m.asker) m.state

-- a take of an answer is refused with Memory alone
abbrev pub NoDeliveryIsRefused : World → Type 0
NoDeliveryIsRefused w = (k : ℕ) (m : Reply) (a d : StateValue) (result : Result (Unit {0}) Fault) → slice_get w.answers k ≡ Some m
    → coordinates a ≡ w.memory m.asker → coordinates d ≡ m.state → TakeGives a m.asker d result → (result ≡ Ok tt) ⊎ (result ≡ Err NoMemory)

-- what an edit does to a state is determined by its command
abbrev pub EditsAreSteps : Type 0
EditsAreSteps = (a b : Coordinates) (own : ℕ) (c : Command) → JoinsEffect a own c b → b ≡ after_edit a own c

-- ---- rosters

-- Each replica of the roster knows its own name; what it has kept isn't longer than what it has in memory, nor that
-- than the world's roster; and each state speaks only of the replicas that the roster beside it names.
pub record HasRosters (w : World) : Type 0 where
  pub named : w.replicas ≡ length w.roster
  pub own : (r : ℕ) → r < w.replicas → r < w.kept_names r
  pub kept_within : (r : ℕ) → w.kept_names r ≤ w.memory_names r
  pub memory_within : (r : ℕ) → w.memory_names r ≤ w.replicas
  pub memory : (r : ℕ) → Fits (w.memory_names r) (w.memory r)
  pub kept : (r : ℕ) → Fits (w.kept_names r) (w.kept r)
  pub askers : (k : ℕ) (q : Question) → slice_get w.asks k ≡ Some q → q.asker < q.names
  -- what a replica has kept never gets shorter than what it asked or answered with
  pub asks : (k : ℕ) (q : Question) → slice_get w.asks k ≡ Some q → Fits q.names q.state × (q.names ≤ w.kept_names q.asker)
  pub answers : (k : ℕ) (m : Reply) → slice_get w.answers k ≡ Some m → Fits m.names m.state × (m.names ≤ w.kept_names m.maker)

abbrev pub StartsWithRosters : Type 0
StartsWithRosters = (ns : List (List ℕ)) → HasRosters (initial_world ns)

abbrev pub KeepsRosters : Type 0
KeepsRosters = (w : World) (e : Event) → HasRosters w → refusal_of w e ≡ None → HasRosters (after w e)
