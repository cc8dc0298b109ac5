-- The next replica of a group, which begins with all that another has seen.
use Rattle.std.specs.Prelude.{◌≡◌, ◌≢◌, ◌⊎◌, ℕ, List, None, Ok, Err}
use Rattle.std.specs.FinMap as map
use Rattle.rds_names.specs.declared.fault.Fault.{Fault}
use Rattle.rds_names.specs.declared.fault.Fault.TheVariants.{Memory, NoSuch, SameReplica}
use Rattle.rds_names.specs.Roster.{number_named}
use Rattle.rds_state.specs.Ahead.{Ahead}
use Rattle.rds_state.specs.Fits.{ReplicaValue}
use Rattle.rds_state.specs.Value.{StateValue, coordinates}

-- a state without components
abbrev pub nothing : StateValue
nothing = record { lives = map.empty; counts = map.empty }

-- the state has nothing of the replica with this number: no dot, live or dead, and no counter's number
abbrev pub IsUnused : StateValue → ℕ → Type 0
IsUnused state own = Ahead nothing own state None

-- the replica of this name, which isn't used yet, in the group of another, whose state it has
pub record IsNextOf (source : ReplicaValue) (name : List ℕ) (next : ReplicaValue) : Type 0 where
  pub named : number_named source.roster name ≡ Ok next.own
  pub other : next.own ≢ source.own
  pub unused : IsUnused source.state next.own
  pub roster : next.roster ≡ source.roster
  pub state : coordinates next.state ≡ coordinates source.state

-- the name is the source's own, or that of a replica of which its state has something
pub record IsUsed (source : ReplicaValue) (name : List ℕ) : Type 0 where
  pub own : ℕ
  pub named : number_named source.roster name ≡ Ok own
  pub used : (own ≡ source.own) ⊎ ¬ (IsUnused source.state own)

-- why there is no next replica: the name is none of the roster's, or it is used; or Memory
abbrev pub RefusesNext : ReplicaValue → List ℕ → Fault → Type 0
RefusesNext source name NoSuch = number_named source.roster name ≡ Err NoSuch
RefusesNext source name SameReplica = IsUsed source name
RefusesNext source name fault = fault ≡ Memory
