-- Replicas of programs and files, as the replicas of a world.
use Rattle.std.specs.Prelude.{◌≡◌, ◌≢◌, ◌<◌, ℕ, List, [], ◌∷◌, length, map, None, Some, slice_get}
use Rattle.rds_state.specs.Coordinates.{Coordinates}
use Rattle.rds_state.specs.Edit.{refusal}
use Rattle.rds_state.specs.Fits.{ReplicaValue}
use Rattle.rds_state.specs.Value.{coordinates}
use Rattle.rds_state.specs.declared.command.Command.{Command}
use Rattle.rds_delta.specs.Least.{least}
use Rattle.rds_delta.specs.Ranks.{ranks}
use Rattle.rds_world.specs.World.{World, Happening, Of, Accepted, Question, Reply, after_edit, next, run}
use Rattle.rds_world.specs.declared.event.Event.TheVariants.{Edit, Grow, Save}

-- ---- what they hold

-- it is what its replica has kept in the world
pub record IsKeptIn (w : World) (v : ReplicaValue) : Type 0 where
  pub there : v.own < w.replicas
  pub names : w.kept_names v.own ≡ length v.roster.names
  pub state : w.kept v.own ≡ coordinates v.state

-- it is what its replica has in memory
pub record IsInMemory (w : World) (v : ReplicaValue) : Type 0 where
  pub there : v.own < w.replicas
  pub names : w.memory_names v.own ≡ length v.roster.names
  pub state : w.memory v.own ≡ coordinates v.state

-- a replica of the world has this one in memory, and has kept the other
pub record IsOpenIn (w : World) (v saved : ReplicaValue) : Type 0 where
  pub memory : IsInMemory w v
  pub kept : IsKeptIn w saved
  pub own : v.own ≡ saved.own

-- no event but the replica's own save changes what it has kept
abbrev pub KeptStays : Type 0
KeptStays = (w : World) (v : ReplicaValue) (e : Happening) → IsKeptIn w v → e ≢ Of (Save v.own) → IsKeptIn (next w e) v

-- ---- what they asked and answered

-- the question with this number is what a replica asked of what it had kept then
pub record IsAskedIn (w : World) (number : ℕ) (asked : ReplicaValue) : Type 0 where
  pub question : Question
  pub ask : slice_get w.asks number ≡ Some question
  pub asker : question.asker ≡ asked.own
  pub names : question.names ≡ length asked.roster.names
  pub state : question.state ≡ coordinates asked.state

-- the answer with this number is what a replica answered with what it had kept, to another that asked with what that
-- had kept
pub record IsAnsweredIn (w : World) (number : ℕ) (asked peer : ReplicaValue) : Type 0 where
  pub reply : Reply
  pub answer : slice_get w.answers number ≡ Some reply
  pub reply_asker : reply.asker ≡ asked.own
  pub reply_names : reply.names ≡ length peer.roster.names
  pub reply_state : reply.state ≡ least (coordinates peer.state) (ranks (coordinates asked.state))
  pub question : Question
  pub ask : slice_get w.asks reply.question ≡ Some question
  pub asker : question.asker ≡ asked.own
  pub names : question.names ≡ length asked.roster.names

-- what was asked and answered stays so, whatever happens
abbrev pub AsksStay : Type 0
AsksStay = (w : World) (events : List Happening) (number : ℕ) (asked : ReplicaValue) → IsAskedIn w number asked
    → IsAskedIn (run events w) number asked

abbrev pub AnswersStay : Type 0
AnswersStay = (w : World) (events : List Happening) (number : ℕ) (asked peer : ReplicaValue)
    → IsAnsweredIn w number asked peer → IsAnsweredIn (run events w) number asked peer

-- ---- what events make of them

-- the events make this replica in its memory, and what is kept stays
pub record MakeInMemory (w : World) (events : List Happening) (v : ReplicaValue) : Type 0 where
  pub accepted : Accepted events w
  pub replicas : (run events w).replicas ≡ w.replicas
  pub names : (run events w).memory_names v.own ≡ length v.roster.names
  pub state : (run events w).memory v.own ≡ coordinates v.state
  pub kept : (run events w).kept ≡ w.kept
  pub kept_names : (run events w).kept_names ≡ w.kept_names

-- the events happened, and a replica has this one in memory by now and has kept the other; the others have kept what they
-- had
pub record MakeOpen (w : World) (events : List Happening) (v saved : ReplicaValue) : Type 0 where
  pub accepted : Accepted events w
  pub is_open : IsOpenIn (run events w) v saved
  pub others : (r : ℕ) → r ≢ v.own → (run events w).kept r ≡ w.kept r

-- the events happened, and this is what its replica has kept by now; the others have kept what they had
pub record LeadsTo (w : World) (events : List Happening) (v : ReplicaValue) : Type 0 where
  pub accepted : Accepted events w
  pub kept : IsKeptIn (run events w) v
  pub others : (r : ℕ) → r ≢ v.own → (run events w).kept r ≡ w.kept r

-- none of the commands is refused, one after the other, and they make the last state of the first
abbrev pub AreDone : ℕ → Coordinates → List Command → Coordinates → Type 0
AreDone own a [] b = b ≡ a
AreDone own a (c ∷ commands) b = (refusal a own c ≡ None) × AreDone own (after_edit a own c) commands b

-- the commands made the one replica of the other
pub record IsMadeBy (before : ReplicaValue) (commands : List Command) (after : ReplicaValue) : Type 0 where
  pub roster : after.roster ≡ before.roster
  pub own : after.own ≡ before.own
  pub done : AreDone before.own (coordinates before.state) commands (coordinates after.state)

-- a replica is edited by one command after the other
abbrev pub edits : ℕ → List Command → List Happening
edits own commands = map (λ c. Of (Edit own c)) commands

-- its roster grows by one name after the other
abbrev pub grows : ℕ → List (List ℕ) → List Happening
grows own names = map (λ n. Of (Grow own n)) names
