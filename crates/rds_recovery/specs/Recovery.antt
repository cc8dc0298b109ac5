-- What is read of a file whose appends crashes broke off.
use Rattle.std.specs.Prelude.{◌≡◌, ◌⊎◌, ℕ, Bool, true, false, List, [], ◌∷◌, ◌++◌, length, take, drop, Some}
use Rattle.std.specs.List.{AllByRecursion}
use Rattle.rds_names.specs.Roster.{Begins}
use Rattle.rds_state.specs.Coordinates.{AtMost}
use Rattle.rds_state.specs.Fits.{ReplicaValue}
use Rattle.rds_state.specs.Value.{coordinates}
use Rattle.rds_journal.specs.Appending.{appended, IsUnappended, LeavesEnd}
use Rattle.rds_journal.specs.Records.{IsBegun}
use Rattle.rds_keep.specs.Changed.{ChangedValue, IsRecordOf}
use Rattle.rds_keep.specs.Changes.{ChangeValue, IsChanged}
use Rattle.rds_keep.specs.Kept.{IsStored}
use Rattle.rds_keep.specs.declared.layout.Layout.{Layout}

-- the file is read as this replica
abbrev pub FileHolds : List ℕ → ReplicaValue → Type 0
FileHolds file v = (layout : Layout) × IsStored file v layout

-- a file is read as one replica
abbrev pub HoldsOne : List ℕ → Type 0
HoldsOne file = (v w : ReplicaValue) → FileHolds file v → FileHolds file w → v ≡ w

-- the same replica later on: it has all of the state, and there may be names behind its own
pub record IsGrown (old new : ReplicaValue) : Type 0 where
  pub roster : Begins old.roster new.roster
  pub own : new.own ≡ old.own
  pub state : AtMost (coordinates old.state) (coordinates new.state)

-- up to there the one file is what the other was
abbrev pub KeepsUpTo : ℕ → List ℕ → List ℕ → Type 0
KeepsUpTo end old new = take end new ≡ take end old

-- ---- changes, one after the other

-- a change that was appended to a file of this layout, whether it was acknowledged, and the file that is there then
pub record Append : Type 0 where
  pub change : ChangedValue
  pub layout : Layout
  pub is_kept : Bool
  pub left : List ℕ

-- What is there: where it was acknowledged, the replica after the change. Else what a crash leaves, which is up to the
-- end of the whole records what was there; or the replica after the change, though that isn't known to last.
abbrev pub LeavesBehind : Bool → List ℕ → Append → Type 0
LeavesBehind true file a = FileHolds a.left a.change.after
LeavesBehind false file a = KeepsUpTo a.layout.whole file a.left ⊎ FileHolds a.left a.change.after

-- a file was read, and a change of its replica appended
pub record IsAppend (file : List ℕ) (a : Append) : Type 0 where
  pub read : IsStored file a.change.before a.layout
  pub delta : ChangeValue
  pub changed : IsChanged a.change.before delta a.change.after
  pub leaves : LeavesBehind a.is_kept file a

-- each to what the one before it left
abbrev pub AreAppends : List ℕ → List Append → Type 0
AreAppends file [] = Unit {0}
AreAppends file (a ∷ appends) = IsAppend file a × AreAppends a.left appends

abbrev pub last_left : List ℕ → List Append → List ℕ
last_left file [] = file
last_left file (a ∷ appends) = last_left a.left appends

-- it has all that was there at first, and all that was acknowledged
pub record HasAcknowledged (first : ReplicaValue) (appends : List Append) (found : ReplicaValue) : Type 0 where
  pub before : IsGrown first found
  pub acknowledged : AllByRecursion (λ a. a.is_kept ≡ true → IsGrown a.change.after found) appends

-- what is read at the end
abbrev pub NoneIsLost : List ℕ → List Append → Type 0
NoneIsLost file appends =
    (first found : ReplicaValue) → FileHolds file first → AreAppends file appends
    → FileHolds (last_left file appends) found
    → HasAcknowledged first appends found

-- ---- one change that was broken off

-- A whole record behind the others is the one that was appended, and none stands behind it: nothing else there is a
-- record by chance.
abbrev pub IsNoOther : List ℕ → List ℕ → Type 0
IsNoOther record_bytes behind =
    IsBegun behind → (rest : List ℕ) × (behind ≡ record_bytes ++ rest) × (IsBegun rest → ⊥)

-- what a crash leaves, where no other record came about
pub record IsBrokenOff (file : List ℕ) (end : ℕ) (record_bytes left : List ℕ) : Type 0 where
  pub front : KeepsUpTo end file left
  pub no_other : IsNoOther record_bytes (drop end left)

-- what is read is the replica before the change, or the one after it
abbrev pub NoneIsMadeUp : List ℕ → ChangedValue → Layout → List ℕ → Type 0
NoneIsMadeUp file change layout left =
    (found : ReplicaValue) → IsStored file change.before layout → IsRecordOf change
    → IsBrokenOff file layout.whole change.bytes left → FileHolds left found
    → (found ≡ change.before) ⊎ (found ≡ change.after)

-- No other record comes about where bytes come to the disk in their order: then a prefix of what stood there is left,
-- or a prefix of the record, or all of it.
abbrev pub InOrderIsNoOther : List ℕ → ChangedValue → Layout → List ℕ → Type 0
InOrderIsNoOther file change layout left =
    IsStored file change.before layout → IsRecordOf change
    → IsUnappended file layout.whole change.bytes (Some left) ⊎ (left ≡ appended file layout.whole change.bytes)
    → IsBrokenOff file layout.whole change.bytes left

-- Where they come in any order, it wants no more than that a whole record behind the others is the one.
abbrev pub TornIsNoOther : List ℕ → ChangedValue → Layout → List ℕ → Type 0
TornIsNoOther file change layout left =
    IsStored file change.before layout → LeavesEnd file layout.whole (length change.bytes) left
    → (IsBegun (drop layout.whole left) → (rest : List ℕ) × (drop layout.whole left ≡ change.bytes ++ rest))
    → IsBrokenOff file layout.whole change.bytes left
