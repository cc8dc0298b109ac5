-- The replicas of a group.
use Rattle.std.specs.Prelude.{◌≡◌, ◌⊎◌, ◌++◌, ℕ, Bool, true, not, ◌&&◌, nat_le, List, [], ◌∷◌, length, Option, Some}
use Rattle.std.specs.Prelude.{None, Result, Ok, Err, if◌then◌else◌}
use Rattle.std.specs.List.{list_any, position}
use Rattle.std.specs.Str.{bytes_eq}
use Rattle.rds_names.specs.declared.fault.Fault.{Fault}
use Rattle.rds_names.specs.declared.fault.Fault.TheVariants.{BadRoster, NoSuch, WrongGroup, WrongRoster}

-- a group, and the names of its replicas in the order of their numbers
pub record RosterValue : Type 0 where
  pub group : List ℕ
  pub names : List (List ℕ)

-- no name stands twice
abbrev pub all_differ : List (List ℕ) → Bool
all_differ [] = true
all_differ (n ∷ ns) = not (list_any (λ m. bytes_eq m n) ns) && all_differ ns

-- 1 to 256 different names
abbrev pub are_names : List (List ℕ) → Bool
are_names names = nat_le 1 (length names) && nat_le (length names) 256 && all_differ names

abbrev pub roster_of : List ℕ → List (List ℕ) → Result RosterValue Fault
roster_of group names = if are_names names then Ok (record { group = group; names = names }) else Err BadRoster

-- the roster with names after its own, at least one
abbrev pub grown_of : RosterValue → List (List ℕ) → Result RosterValue Fault
grown_of r names = if nat_le 1 (length names) then roster_of r.group (r.names ++ names) else Err BadRoster

-- the number of the replica with this name
abbrev pub number_named : RosterValue → List ℕ → Result ℕ Fault
number_named r name = or_no_such (position (bytes_eq name) r.names)
  where
    or_no_such : Option ℕ → Result ℕ Fault
    or_no_such (Some number) = Ok number
    or_no_such None = Err NoSuch

-- the names are the others' first ones
abbrev pub AreFirst : List (List ℕ) → List (List ℕ) → Type 0
AreFirst names others = (more : List (List ℕ)) × (others ≡ names ++ more)

-- the same group, and the names are the other's first ones
abbrev pub Begins : RosterValue → RosterValue → Type 0
Begins r s = (r.group ≡ s.group) × AreFirst r.names s.names

-- one of them begins the other: they are equal, or one has grown since
abbrev pub OneBegins : RosterValue → RosterValue → Type 0
OneBegins r s = Begins r s ⊎ Begins s r

-- when two rosters meet in the longer one, and which fault is given: first that of another group
abbrev pub MeetGives : {T : Type 0} → RosterValue → RosterValue → Result T Fault → Type 0
MeetGives r s (Ok x) = OneBegins r s
MeetGives r s (Err WrongGroup) = ¬ (r.group ≡ s.group)
MeetGives r s (Err WrongRoster) = (r.group ≡ s.group) × ¬ (OneBegins r s)
MeetGives r s (Err f) = ⊥

-- the one with more names
abbrev pub longer : RosterValue → RosterValue → RosterValue
longer r s = if nat_le (length s.names) (length r.names) then r else s
