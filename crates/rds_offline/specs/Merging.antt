-- A replica that takes all that another has seen.
use Rattle.std.specs.Prelude.{◌≡◌, ◌⊎◌, ℕ, None, Err}
use Rattle.rds_names.specs.declared.fault.Fault.{Fault}
use Rattle.rds_names.specs.declared.fault.Fault.TheVariants.{Memory}
use Rattle.rds_delta.specs.Least.{least}
use Rattle.rds_delta.specs.Ranks.{ranks}
use Rattle.rds_state.specs.Ahead.{Ahead}
use Rattle.rds_state.specs.Coordinates.{join}
use Rattle.rds_state.specs.Fits.{ReplicaValue}
use Rattle.rds_state.specs.Grown.{TakeWithGives}
use Rattle.rds_names.specs.Roster.{OneBegins, longer}
use Rattle.rds_state.specs.Value.{StateValue, coordinates, size}

-- it took the other's state, which has nothing of its own that it lacked, and the longer of the two rosters, of which
-- one begins the other
pub record IsMergedFrom (source before after : ReplicaValue) : Type 0 where
  pub rosters : OneBegins before.roster source.roster
  pub roster : after.roster ≡ longer before.roster source.roster
  pub own : after.own ≡ before.own
  pub joined : coordinates after.state ≡ join (coordinates before.state) (coordinates source.state)
  pub known : Ahead before.state before.own source.state None

-- the other's components that it lacked, or had at a lower rank or number
abbrev pub IsLackingPart : ReplicaValue → ReplicaValue → StateValue → Type 0
IsLackingPart source before lacking =
    coordinates lacking ≡ least (coordinates source.state) (ranks (coordinates before.state))

-- how many they are
pub record CountsLacking (source before : ReplicaValue) (components : ℕ) : Type 0 where
  pub lacking : StateValue
  pub is_least : IsLackingPart source before lacking
  pub count : components ≡ size lacking

-- why it doesn't take the other's state: as a take gives it, or Memory
abbrev pub RefusesMerge : ReplicaValue → ReplicaValue → Fault → Type 0
RefusesMerge source before fault =
    (fault ≡ Memory)
    ⊎ TakeWithGives {T = Unit {0}} before.roster source.roster before.state before.own source.state (Err fault)
