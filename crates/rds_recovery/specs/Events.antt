-- Edits of a file that crashes broke off, as events of the model.
use Rattle.std.specs.Prelude.{◌≡◌, ◌⊎◌, ℕ, Bool, true, false, List, [], ◌∷◌, ◌++◌}
use Rattle.rds_state.specs.Fits.{ReplicaValue}
use Rattle.rds_state.specs.declared.command.Command.{Command}
use Rattle.rds_world.specs.Replicas.{IsKeptIn, IsMadeBy, LeadsTo, MakeInMemory, edits}
use Rattle.rds_world.specs.World.{World, Happening, Of, after}
use Rattle.rds_world.specs.declared.event.Event.TheVariants.{Crash, Save}
use Rattle.rds_keep.specs.Changed.{IsRecordOf}
use Rattle.rds_keep.specs.Kept.{IsStored}
use Rattle.rds_recovery.specs.Recovery.{Append, FileHolds, IsBrokenOff, last_left}

-- ---- changes

-- what is there then: as an append leaves it, and no other record came about
abbrev pub LeavesNoOther : Bool → List ℕ → Append → Type 0
LeavesNoOther true file a = FileHolds a.left a.change.after
LeavesNoOther false file a = IsBrokenOff file a.layout.whole a.change.bytes a.left ⊎ FileHolds a.left a.change.after

-- a file was read, and a change of its replica appended
pub record IsChange (file : List ℕ) (a : Append) : Type 0 where
  pub read : IsStored file a.change.before a.layout
  pub change : IsRecordOf a.change
  pub leaves : LeavesNoOther a.is_kept file a

-- what was acknowledged is saved; at any other change a crash comes, before it is saved or behind that
abbrev pub IsEnding : Bool → ℕ → List Happening → Type 0
IsEnding true own events = events ≡ Of (Save own) ∷ []
IsEnding false own events = (events ≡ Of (Crash own) ∷ []) ⊎ (events ≡ Of (Save own) ∷ Of (Crash own) ∷ [])

-- what is read behind a change that some events made of the replica that was read
abbrev pub ChangeIsEvents : World → List ℕ → Append → Type 0
ChangeIsEvents w file a =
    (events : List Happening) (found : ReplicaValue) → IsKeptIn w a.change.before → IsChange file a
    → MakeInMemory (after w (Crash a.change.before.own)) events a.change.after → FileHolds a.left found
    → (ending : List Happening) × IsEnding a.is_kept a.change.before.own ending
    × LeadsTo w (Of (Crash a.change.before.own) ∷ (events ++ ending)) found

-- ---- edits

-- a file was read, its replica edited, and the change appended
pub record IsEdit (file : List ℕ) (a : Append) : Type 0 where
  pub change : IsChange file a
  pub commands : List Command
  pub made : IsMadeBy a.change.before commands a.change.after

-- each of what the one before it left
abbrev pub AreEdits : List ℕ → List Append → Type 0
AreEdits file [] = Unit {0}
AreEdits file (a ∷ appends) = IsEdit file a × AreEdits a.left appends

-- a replica is read, and edited by one command after the other
abbrev pub edit_events : ℕ → List Command → List Happening → List Happening
edit_events own commands then = Of (Crash own) ∷ (edits own commands ++ then)

pub record AreEventsOf (a : Append) (events : List Happening) : Type 0 where
  pub commands : List Command
  pub made : IsMadeBy a.change.before commands a.change.after
  pub ending : List Happening
  pub is_ending : IsEnding a.is_kept a.change.before.own ending
  pub parts : events ≡ edit_events a.change.before.own commands ending

-- the events of one edit after the other
abbrev pub AreEventsOfAll : List Append → List Happening → Type 0
AreEventsOfAll [] events = events ≡ []
AreEventsOfAll (a ∷ appends) events =
    (first later : List Happening) × (events ≡ first ++ later) × AreEventsOf a first × AreEventsOfAll appends later

-- what is read behind one edit
abbrev pub EditIsEvents : World → List ℕ → Append → Type 0
EditIsEvents w file a =
    (found : ReplicaValue) → IsKeptIn w a.change.before → IsEdit file a → FileHolds a.left found
    → (events : List Happening) × AreEventsOf a events × LeadsTo w events found

-- and behind all of them
abbrev pub EditsAreEvents : World → List ℕ → List Append → Type 0
EditsAreEvents w file appends =
    (first found : ReplicaValue) → IsKeptIn w first → FileHolds file first → AreEdits file appends
    → FileHolds (last_left file appends) found
    → (events : List Happening) × AreEventsOfAll appends events × LeadsTo w events found
