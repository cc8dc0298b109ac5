-- How far a list of events goes.
use Rattle.std.specs.Prelude.{◌≡◌, ◌⊎◌, List, ◌∷◌, ◌++◌, [], map}
use Rattle.rds_names.specs.declared.fault.Fault.{Fault}
use Rattle.rds_names.specs.declared.fault.Fault.TheVariants.{Memory}
use Rattle.rds_names.specs.Roster.{RosterValue}
use Rattle.rds_world.specs.declared.event.Event.{Event}
use Rattle.rds_world.specs.World.{World, Of, after, initial_world}
use Rattle.rds_world.specs.Stored.{WorldValue}
use Rattle.rds_world.specs.Stands.{Stands}
use Rattle.rds_world.specs.Events.{IsAccepted, RefusesEvent}
use Rattle.rds_world.specs.Law.{world_after}

-- the roster with which a group began, with the names of a world
abbrev pub roster_with_names : RosterValue → World → RosterValue
roster_with_names roster w = record roster { names = w.roster }

-- what stands for the model's world, of a group that began with this roster, accepts the event: it makes nothing too long
pub record Happens (roster : RosterValue) (w : World) (e : Event) : Type 0 where
  pub value : WorldValue
  pub of_roster : value.roster ≡ roster_with_names roster w
  pub stands : Stands value w
  pub accepted : IsAccepted value w e

-- each event of the list happens, one after the other
abbrev pub AllHappen : RosterValue → List Event → World → Type 0
AllHappen roster [] w = Unit {0}
AllHappen roster (e ∷ es) w = Happens roster w e × AllHappen roster es (after w e)

-- all events happened, and the world stands for the model's after them
pub record Reaches (roster : RosterValue) (es : List Event) (v : WorldValue) : Type 0 where
  pub happened : AllHappen roster es (initial_world roster.names)
  pub stands : Stands v (world_after roster.names (map Of es))
  pub of_roster : v.roster ≡ roster_with_names roster (world_after roster.names (map Of es))

-- the world was reached before an event that is refused so
pub record StopsAt (roster : RosterValue) (es : List Event) (v : WorldValue) (fault : Fault) : Type 0 where
  pub before : List Event
  pub last : Event
  pub later : List Event
  pub whole : es ≡ before ++ last ∷ later
  pub reached : Reaches roster before v
  pub refused : RefusesEvent v (world_after roster.names (map Of before)) last fault

-- there was no memory for the replicas
pub record HasNoReplicas (v : WorldValue) (fault : Fault) : Type 0 where
  pub fault_is : fault ≡ Memory
  pub memory : v.memory ≡ []
  pub kept : v.kept ≡ []
  pub asks : v.asks ≡ []
  pub answers : v.answers ≡ []

-- why a list of events wasn't gone through
abbrev pub Stops : RosterValue → List Event → WorldValue → Fault → Type 0
Stops roster es v fault = StopsAt roster es v fault ⊎ HasNoReplicas v fault
