-- What exports promise of the replica that a slot holds.
use Rattle.std.specs.Prelude.{◌≡◌, ◌⊎◌, ℕ, List, [], Option, None, Some, Result, Ok, Err}
use Rattle.std.specs.Global.{Vec}
use Rattle.rds_json.specs.Line.{line_of}
use Rattle.rds_json.specs.declared.line.Line.TheVariants.{Roster}
use Rattle.rds_journal.specs.Records.{record_text}
use Rattle.rds_keep.specs.Changes.{ChangeValue, IsChanged, change_text}
use Rattle.rds_keep.specs.Kept.{IsStored}
use Rattle.rds_keep.specs.declared.layout.Layout.{Layout}
use Rattle.rds_names.specs.Roster.{RosterValue}
use Rattle.rds_names.specs.declared.fault.Fault.{Fault}
use Rattle.rds_offline.specs.Letters.{TakesResponse}
use Rattle.rds_state.specs.Fits.{ReplicaValue}
use Rattle.rds_state.specs.declared.command.Command.{Command}
use Rattle.rds_store.specs.Changes.{DraftValue}
use Rattle.rds_store.specs.Documents.{first_replica}
use Rattle.rds_store.specs.Meetings.{MergesSnapshot, RespondsTo}
use Rattle.rds_c.specs.Told.{EditsDocument, IsLeft, IsNarrowed, IsTold, layout_for_c}
use Rattle.rds_c.specs.contracts.opened.Opened.{the_row}
use Rattle.rds_c.specs.declared.slot.Slot.{Slot}
use Rattle.rds_c.specs.declared.status.EditedC.{EditedC}
use Rattle.rds_c.specs.declared.status.LayoutC.{LayoutC}

abbrev pub draft_of : Option the_row.Denot → Option DraftValue
draft_of None = None
draft_of (Some d) = Some d.draft

abbrev pub left_text : Option the_row.Denot → List ℕ
left_text None = []
left_text (Some d) = d.told.items

-- the replica of a slot, and what it was when it was kept
abbrev pub draft_in : Slot → Option DraftValue
draft_in slot = draft_of slot.handle.document

-- what is left to be told of it
abbrev pub left_in : Slot → List ℕ
left_in slot = left_text slot.handle.document

-- the same replica, or none before and after
abbrev pub SlotIsKept : Slot → Slot → Type 0
SlotIsKept old new = draft_in new ≡ draft_in old

-- where a call was refused, the replica is as it was
abbrev pub IsKeptUnlessDone : ℕ → Slot → Slot → Type 0
IsKeptUnlessDone status old new = (status ≡ 0) ⊎ SlotIsKept old new

abbrev pub holds_of : (DraftValue → Type 0) → Option DraftValue → Type 0
holds_of P (Some v) = P v
holds_of P None = ⊥

abbrev pub becomes_of : (DraftValue → DraftValue → Type 0) → Option DraftValue → Option DraftValue → Type 0
becomes_of P (Some v) new = holds_of (P v) new
becomes_of P None new = ⊥

abbrev pub changes_of : (ReplicaValue → ReplicaValue → Type 0) → Option DraftValue → Option DraftValue → Type 0
changes_of P = becomes_of (λ v w. P v.document w.document × (w.kept ≡ v.kept))

-- a slot with a replica of which this holds
abbrev pub SlotHolds : (ReplicaValue → Type 0) → Slot → Type 0
SlotHolds P slot = holds_of (λ v. P v.document) (draft_in slot)

-- a slot with a replica before and after, of which this holds; what it was when it was kept is the same
abbrev pub Changes : (ReplicaValue → ReplicaValue → Type 0) → Slot → Slot → Type 0
Changes P old new = changes_of P (draft_in old) (draft_in new)

-- ---- opening

-- the replica that was made, where one was
abbrev pub SlotIsMade : Result DraftValue Fault → Slot → Type 0
SlotIsMade (Ok v) slot = holds_of (λ w. w ≡ v) (draft_in slot)
SlotIsMade (Err fault) slot = ⊥

-- an empty replica of the roster that a line has
abbrev pub IsNewReplica : List ℕ → ℕ → ReplicaValue → Type 0
IsNewReplica line own v = (roster : RosterValue) × (line_of line ≡ Ok (Roster roster))
    × (first_replica (Ok roster) own ≡ Ok v)

-- ---- files

-- the replica was made of what a file's bytes hold, and is kept as it is; where their parts stand was reported
pub record IsOpenedFrom (bytes : List ℕ) (told : LayoutC) (v : DraftValue) : Type 0 where
  pub layout : Layout
  pub stored : IsStored bytes v.document layout
  pub is_told : told ≡ layout_for_c layout
  pub kept : v.kept ≡ v.document

-- the same of the replica of a slot
abbrev pub OpensFile : List ℕ → LayoutC → Slot → Type 0
OpensFile bytes told slot = holds_of (IsOpenedFrom bytes told) (draft_in slot)

-- the record of a change that made the replica of what it was when it was kept
pub record IsRecord (v : DraftValue) (text : List ℕ) : Type 0 where
  pub change : ChangeValue
  pub changed : IsChanged v.kept change v.document
  pub text_is : text ≡ record_text (change_text v.document.own change)

-- the replica is kept as it is
abbrev pub SetsKept : Slot → Slot → Type 0
SetsKept old new =
    becomes_of (λ v w. (w.document ≡ v.document) × (w.kept ≡ v.document)) (draft_in old) (draft_in new)

-- ---- telling

-- this holds of a text of it
abbrev pub Says : (DraftValue → List ℕ → Type 0) → (List ℕ → Type 0) → DraftValue → Type 0
Says Text P v = (text : List ℕ) × Text v text × P text

-- a text is reported (status 0), or left to be told (66), and the replica is as it was
pub record TellsTextOf (Text : DraftValue → List ℕ → Type 0) (status : ℕ) (old new : Slot) (room : List ℕ) (n : ℕ)
    : Type 0 where
  pub told : status ≡ 0 → holds_of (Says Text (λ text. IsTold text room n)) (draft_in old)
  pub left : status ≡ 66 → holds_of (Says Text (λ text. IsLeft text (left_in new) n)) (draft_in old)
  pub kept : SlotIsKept old new

-- a text of the replica
abbrev pub TellsText : (ReplicaValue → List ℕ → Type 0) → ℕ → Slot → Slot → List ℕ → ℕ → Type 0
TellsText Text = TellsTextOf (λ v. Text v.document)

-- the bytes are what a replica responds to a question
pub record Responds (question : List ℕ) (v : ReplicaValue) (text : List ℕ) : Type 0 where
  pub bytes : Vec ℕ
  pub responds : RespondsTo question v (Ok bytes)
  pub text_is : text ≡ bytes.items

-- ---- changing

-- that was done which was asked for, and what it did is reported (status 0), or the replica is as it was
pub record Edits (asked : Result Command Fault) (status : ℕ) (old new : Slot) (told : EditedC) : Type 0 where
  pub done : status ≡ 0 → Changes (λ v w. EditsDocument asked v w told) old new
  pub kept : IsKeptUnlessDone status old new

-- what an answer brought was taken
abbrev pub TakesInSlot : List ℕ → List ℕ → Slot → Slot → ℕ → Type 0
TakesInSlot question answer old new told =
    Changes (λ v w. (n : ℕ) × TakesResponse question answer v w n × IsNarrowed n told) old new

-- what a snapshot has was taken
abbrev pub Merges : List ℕ → Slot → Slot → ℕ → Type 0
Merges snapshot old new told = Changes (λ v w. (n : ℕ) × MergesSnapshot snapshot v w n × IsNarrowed n told) old new
