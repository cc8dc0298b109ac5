-- A new document, and one whose group grows.
use Rattle.std.specs.Prelude.{◌≡◌, ◌⊎◌, ℕ, nat_lt, List, [], ◌∷◌, length, Result, Ok, Err, if◌then◌else◌}
use Rattle.std.specs.FinMap as map
use Rattle.rds_keep.specs.Kept.{IsStored}
use Rattle.rds_keep.specs.declared.layout.Layout.{Layout}
use Rattle.rds_names.specs.AndThen.{◌>>=◌}
use Rattle.rds_names.specs.Key.{key_of}
use Rattle.rds_names.specs.Name.{name_of}
use Rattle.rds_names.specs.Roster.{RosterValue, grown_of, roster_of}
use Rattle.rds_names.specs.declared.fault.Fault.{Fault}
use Rattle.rds_names.specs.declared.fault.Fault.TheVariants.{BadRoster, Memory}
use Rattle.rds_state.specs.Fits.{ReplicaValue}

-- the names, or the fault of the first text that is none
abbrev pub names_in : List (List ℕ) → Result (List (List ℕ)) Fault
names_in [] = Ok []
names_in (text ∷ texts) = name_of text >>= λ name. names_in texts >>= λ names. Ok (name ∷ names)

-- the roster of a group and of names
abbrev pub named_roster : List ℕ → List (List ℕ) → Result RosterValue Fault
named_roster group names = key_of group >>= λ g. names_in names >>= λ ns. roster_of g ns

-- the replica that has seen nothing
abbrev pub empty_replica : RosterValue → ℕ → ReplicaValue
empty_replica roster own = record {
  roster = roster;
  own = own;
  state = record { lives = map.empty; counts = map.empty };
}

-- the one with this number in a roster
abbrev pub first_in : RosterValue → ℕ → Result ReplicaValue Fault
first_in roster own = if nat_lt own (length roster.names) then Ok (empty_replica roster own) else Err BadRoster

abbrev pub first_replica : Result RosterValue Fault → ℕ → Result ReplicaValue Fault
first_replica roster own = roster >>= λ r. first_in r own

-- the roster has a name more, and nothing else is changed
pub record IsGrownBy (name : List ℕ) (before after : ReplicaValue) : Type 0 where
  pub roster : grown_of before.roster (name ∷ []) ≡ Ok after.roster
  pub own : after.own ≡ before.own
  pub state : after.state ≡ before.state

-- why a roster doesn't grow: the text is no name, or no roster has this name too; or Memory
abbrev pub RefusesGrowth : List ℕ → ReplicaValue → Fault → Type 0
RefusesGrowth name before fault =
    (fault ≡ Memory)
    ⊎ ((name_of name ≡ Err fault) ⊎ (grown_of before.roster (name ∷ []) ≡ Err fault))

-- the bytes of a file hold the replica
abbrev pub IsHeldBy : List ℕ → ReplicaValue → Type 0
IsHeldBy bytes v = (layout : Layout) × IsStored bytes v layout
