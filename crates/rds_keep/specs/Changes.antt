-- What changes a kept replica, and its text.
use Rattle.std.specs.Prelude.{◌≡◌, ℕ, List, [], length, ◌∷◌, ◌++◌, Option, None, Some, refl}
use Rattle.std.specs.Coded.{Coded, code_by, coded×, coded_option}
use Rattle.rds_names.specs.Roster.{RosterValue, Begins}
use Rattle.rds_bytes.specs.Spelling.{member_text}
use Rattle.rds_bytes.specs.Values.{IsMember}
use Rattle.rds_codec.specs.Kinds.{Kind}
use Rattle.rds_codec.specs.StateTexts.{IsStateOf, state_text}
use Rattle.rds_state.specs.Coordinates.{AreCompatible, join}
use Rattle.rds_state.specs.Fits.{Fits, ReplicaValue, coded_roster}
use Rattle.rds_state.specs.Value.{StateValue, coordinates, coded_state}

-- a delta, and a longer roster where one comes with it
pub record ChangeValue : Type 0 where
  pub roster : Option RosterValue
  pub delta : StateValue

abbrev pub coded_change : Coded ChangeValue
coded_change =
    code_by (Option RosterValue × StateValue) (coded× (coded_option coded_roster) coded_state)
    (λ c. (c.roster, c.delta)) (λ p. record { roster = p.0; delta = p.1 }) (λ _. refl)

-- the roster behind a change
abbrev pub roster_after : RosterValue → Option RosterValue → RosterValue
roster_after old None = old
roster_after old (Some new) = new

-- a byte that says which of the two it is, the roster and the own number where it has them, and the delta in format 2
abbrev pub front_text : ℕ → Option RosterValue → List ℕ
front_text own None = 1 ∷ []
front_text own (Some roster) = 2 ∷ member_text roster own

abbrev pub change_text : ℕ → ChangeValue → List ℕ
change_text own c = front_text own c.roster ++ state_text c.delta

-- A replica took a change: its roster is the longer one where that came, and its state is joined with the delta, which
-- fits into that roster.
pub record IsChanged (old : ReplicaValue) (c : ChangeValue) (new : ReplicaValue) : Type 0 where
  pub roster : new.roster ≡ roster_after old.roster c.roster
  pub begins : Begins old.roster new.roster
  pub own : new.own ≡ old.own
  pub joined : coordinates new.state ≡ join (coordinates old.state) (coordinates c.delta)
  pub fits : Fits (length new.roster.names) (coordinates c.delta)

-- ---- what is read again

-- A change that its text gives again to a replica of this number, whose roster is the old one: the roster from then on
-- has a text, and the delta is a state of as many replicas.
pub record IsChangeFor (old : RosterValue) (own : ℕ) (c : ChangeValue) : Type 0 where
  pub begins : Begins old (roster_after old c.roster)
  pub member : IsMember (roster_after old c.roster) own
  pub delta : IsStateOf (length (roster_after old c.roster).names) c.delta

-- the texts of changes
abbrev pub change_kind : RosterValue → ℕ → Kind ChangeValue
change_kind old own = record { is_value = IsChangeFor old own; text = change_text own }

-- a replica took a change that its text gives again, and no dot has two entries
pub record IsRedone (old : ReplicaValue) (c : ChangeValue) (new : ReplicaValue) : Type 0 where
  pub change : IsChangeFor old.roster old.own c
  pub changed : IsChanged old c new
  pub compatible : AreCompatible (coordinates old.state) (coordinates c.delta)
