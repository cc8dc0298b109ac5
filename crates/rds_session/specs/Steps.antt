-- What a step of a session does.
use Rattle.std.specs.Prelude.{◌≡◌, ◌⊎◌, ℕ, true, List, [], ◌++◌, Option, Some, None, Result, MatchResult}
use Rattle.rds_names.specs.declared.fault.Fault.{Fault}
use Rattle.rds_names.specs.declared.fault.Fault.TheVariants.{Memory}
use Rattle.rds_state.specs.Fits.{ReplicaValue}
use Rattle.rds_session.specs.declared.kinds.ByeCode.TheVariants as byes
use Rattle.rds_session.specs.declared.talk.Side.{Side}
use Rattle.rds_session.specs.declared.talk.Side.TheVariants.{Server}
use Rattle.rds_session.specs.declared.step.Ended.{Ended}
use Rattle.rds_session.specs.declared.step.Ended.TheVariants.{Going, Failed}
use Rattle.rds_session.specs.declared.step.Input.{Input}
use Rattle.rds_session.specs.declared.step.Input.TheVariants.{Bytes, End}
use Rattle.rds_session.specs.Chunks.{message_in_chunks}
use Rattle.rds_session.specs.declared.talk.Stop.TheVariants.{Refused}
use Rattle.rds_session.specs.Judging.{StopsByNoDevice}
use Rattle.rds_session.specs.Messages.{bye_message}
use Rattle.rds_session.specs.Received.{Delivery}
use Rattle.rds_session.specs.Session.{Standing, Sent, then_more, run_bytes, after_opening, after_input, after_step, Heard, heard_more, course}

-- ---- a step, and the stream

-- a session has the standing of the stream that it heard
abbrev pub HasStanding : Side → ReplicaValue → Heard → Standing → Type 0
HasStanding side kept heard s = s ≡ (course side kept heard).0

-- what comes in a step: bytes, or the end
abbrev pub came : Input → Option (List ℕ)
came (Bytes piece) = Some piece.now
came End = None

-- nothing was received, or what is received for the stream
abbrev pub ReceivedAtMost : Side → ReplicaValue → Heard → Option Delivery → Type 0
ReceivedAtMost side kept heard received = (received ≡ None) ⊎ (received ≡ (course side kept heard).0.received)

-- the last bytes where memory ran out: a BYE that says so, or nothing where there is no memory for it either
abbrev pub IsLastWord : List ℕ → Type 0
IsLastWord sent = (sent ≡ []) ⊎ (sent ≡ message_in_chunks (bye_message byes.OwnFault))

-- a session that has the standing of a stream has that of the longer stream, and sends what is sent for it beyond
-- what is sent for the shorter one
pub record FollowsStream (side : Side) (kept : ReplicaValue) (heard : Heard) (input : Option (List ℕ)) (new : Standing) (sent : List ℕ) : Type 0 where
  pub standing : HasStanding side kept (heard_more heard input) new
  pub beyond : (course side kept (heard_more heard input)).1 ≡ (course side kept heard).1 ++ sent

-- what had been received for the stream so far stays
abbrev pub StaysReceived : Side → ReplicaValue → Heard → Option Delivery → Type 0
StaysReceived side kept heard received = ((course side kept heard).0.received ≡ None) ⊎ (received ≡ (course side kept heard).0.received)

-- memory ran out in the step
pub record RanOut (side : Side) (kept : ReplicaValue) (heard : Heard) (input : Option (List ℕ)) (new : Standing) (sent : List ℕ) : Type 0 where
  pub ended : new.ended ≡ Failed Memory
  pub received : ReceivedAtMost side kept (heard_more heard input) new.received
  pub stays : StaysReceived side kept heard new.received
  pub last_word : IsLastWord sent

abbrev pub Continues : Side → ReplicaValue → Heard → Option (List ℕ) → Standing → List ℕ → Type 0
Continues side kept heard input new sent = FollowsStream side kept heard input new sent
    ⊎ RanOut side kept heard input new sent

-- the session has ended
abbrev pub IsOver : Ended → Type 0
IsOver Going = ⊥
IsOver _ = Unit {0}

-- it hasn't failed by a call of the system
abbrev pub IsNoDevice : Ended → Type 0
IsNoDevice (Failed f) = StopsByNoDevice (Refused f)
IsNoDevice _ = Unit {0}

-- ---- the parts of a step

-- a standing became the next one, and what it sends was added; or memory ran out, and what was received stayed
abbrev pub TakesStep : {T : Type 0} → Standing → List ℕ → Standing → List ℕ → Result T Fault → (Standing → Sent)
    → Type 0
TakesStep old sent new more result go = MatchResult result
    (λ _. (new ≡ (go old).0) × (more ≡ sent ++ (go old).1))
    (λ e. (e ≡ Memory) × (new.received ≡ old.received))

-- a front of the bytes came, and this rest is left
pub record Ran (old : Standing) (sent piece : List ℕ) (new : Standing) (more rest : List ℕ) : Type 0 where
  pub front : List ℕ
  pub split : piece ≡ front ++ rest
  pub now : new ≡ (run_bytes front old).0
  pub said : more ≡ sent ++ (run_bytes front old).1

-- what was received after a front of the bytes
abbrev pub ReceivedOnTheWay : Standing → List ℕ → Option Delivery → Type 0
ReceivedOnTheWay old piece received = (front rest : List ℕ) × (piece ≡ front ++ rest) × (received ≡ (run_bytes front old).0.received)

-- the bytes came; or memory ran out with what was received after a front of them
abbrev pub Runs : {T : Type 0} → Standing → List ℕ → List ℕ → Standing → List ℕ → Result T Fault → Type 0
Runs old sent piece new more result = MatchResult result
    (λ _. (new ≡ (run_bytes piece old).0) × (more ≡ sent ++ (run_bytes piece old).1))
    (λ e. (e ≡ Memory) × ReceivedOnTheWay old piece new.received)

abbrev pub piece_of : Option (List ℕ) → List ℕ
piece_of None = []
piece_of (Some piece) = piece

-- no bytes come, and no client begins
abbrev pub TakesNoMemory : Standing → Option (List ℕ) → Type 0
TakesNoMemory old input = (piece_of input ≡ []) × ((old.begun ≡ true) ⊎ (old.side ≡ Server))

-- a step takes memory only where bytes come, or a client begins
abbrev pub StepTakesMemory : Standing → Option (List ℕ) → Type 0
StepTakesMemory old input = TakesNoMemory old input → ⊥

-- bytes or the end came, after the opening; or memory ran out with what was received after a front of them
abbrev pub Works : {T : Type 0} → Standing → List ℕ → Option (List ℕ) → Standing → List ℕ → Result T Fault → Type 0
Works old sent input new more result = MatchResult result
    (λ _. (new ≡ (then_more (after_opening old) (after_input input)).0) × (more ≡ sent ++ (then_more (after_opening old) (after_input input)).1))
    (λ e. (e ≡ Memory) × ReceivedOnTheWay (after_opening old).0 (piece_of input) new.received
    × StepTakesMemory old input)

abbrev pub RunsOut : Standing → Option (List ℕ) → Standing → List ℕ → Type 0
RunsOut old input new sent =
    (old.ended ≡ Going) × (new.ended ≡ Failed Memory) × ReceivedOnTheWay (after_opening old).0 (piece_of input) new.received × IsLastWord sent × StepTakesMemory old input

-- the step was taken; or memory ran out in it
abbrev pub Steps : Standing → Option (List ℕ) → Standing → List ℕ → Type 0
Steps old input new sent = ((new ≡ (after_step old input).0) × (sent ≡ (after_step old input).1)) ⊎ RunsOut old input new sent
