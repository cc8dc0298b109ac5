-- What a step does to all worlds of the model that a value stands for.
use Rattle.std.specs.Prelude.{◌≡◌, ◌≢◌, ◌<◌, ℕ, List, Some, None, Result, Err, MatchResult, length, slice_get}
use Rattle.rds_names.specs.Roster.{RosterValue}
use Rattle.rds_names.specs.declared.fault.Fault.{Fault}
use Rattle.rds_names.specs.declared.fault.Fault.TheVariants.{Memory}
use Rattle.rds_state.specs.Fits.{ReplicaValue}
use Rattle.rds_world.specs.declared.event.Event.{Event}
use Rattle.rds_world.specs.declared.event.Done.{Done}
use Rattle.rds_world.specs.declared.event.Event.TheVariants.{Grow}
use Rattle.rds_world.specs.World.{World, after, refusal_of}
use Rattle.rds_world.specs.Stored.{WorldValue}
use Rattle.rds_world.specs.Stands.{Stands}
use Rattle.rds_world.specs.Events.{IsAccepted, IsDone, RefusesEvent, roster_after_event}

pub record IsStep (old : WorldValue) (e : Event) (answer : Done) (new : WorldValue) : Type 0 where
  pub accepted : (w : World) → Stands old w → IsAccepted old w e
  pub stands : (w : World) → Stands old w → Stands new (after w e)
  pub done : (w : World) → Stands old w → IsDone old w e answer
  pub roster : new.roster ≡ roster_after_event old.roster e

-- the replica may grow the roster by the name, and this is what it then is
pub record MayGrow (v : WorldValue) (r : ℕ) (name : List ℕ) (roster : RosterValue) : Type 0 where
  pub below : r < length v.memory
  pub knows : (m : ReplicaValue) → slice_get v.memory r ≡ Some m → m.roster ≡ v.roster
  pub whole : length v.memory ≡ length v.roster.names
  pub few : length v.memory < 256
  pub grown : roster ≡ roster_after_event v.roster (Grow r name)
  pub due : (w : World) → Stands v w → refusal_of w (Grow r name) ≡ None

pub record IsStopped (old : WorldValue) (e : Event) (fault : Fault) (new : WorldValue) : Type 0 where
  pub refused : (w : World) → Stands old w → RefusesEvent old w e fault
  pub same : new ≡ old

-- what a step ensures of its answer and of the world after it
abbrev pub IsStepped : WorldValue → Event → Result Done Fault → WorldValue → Type 0
IsStepped old e answer new = MatchResult answer (λ done. IsStep old e done new) (λ fault. IsStopped old e fault new)

-- where there is memory, no second answer and no second world after it meet that
abbrev pub StepsHaveOneResult : Type 0
StepsHaveOneResult = (v x y : WorldValue) (w : World) (e : Event) (r s : Result Done Fault) → Stands v w
    → IsStepped v e r x → IsStepped v e s y → r ≢ Err Memory → s ≢ Err Memory → (r ≡ s) × (x ≡ y)
