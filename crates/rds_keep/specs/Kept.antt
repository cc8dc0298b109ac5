-- What a file holds: a snapshot, its checksum, records of changes behind them, and a torn end; and which replicas can be
-- kept.
use Rattle.std.specs.Prelude.{◌≡◌, ◌<◌, ◌≤◌, ℕ, Bool, false, List, [], ◌∷◌, ◌++◌, length, map, take, Err}
use Rattle.rds_names.specs.declared.fault.Fault.{Fault}
use Rattle.rds_names.specs.declared.fault.Fault.TheVariants.{Memory, Cut, Bad, TooLong, Device}
use Rattle.rds_state.specs.Fits.{ReplicaValue}
use Rattle.rds_codec.specs.FormatTexts.{snapshot_in_at, snapshot_text_in}
use Rattle.rds_codec.specs.StateTexts.{IsSnapshot}
use Rattle.rds_codec.specs.declared.formats.Format.{Format}
use Rattle.rds_codec.specs.declared.formats.Format.TheVariants.{Two}
use Rattle.rds_codec.specs.declared.limits.TheConstants.{LIMIT}
use Rattle.rds_journal.specs.Records.{IsPayload, IsTorn, journal_text}
use Rattle.rds_keep.specs.Changes.{ChangeValue, IsRedone, change_text}
use Rattle.rds_keep.specs.Sums.{CutsSum, summed_text}
use Rattle.rds_keep.specs.declared.layout.Layout.{Layout}

-- the records of changes that a replica of this number took
abbrev pub records_text : ℕ → List ChangeValue → List ℕ
records_text own changes = journal_text (map (change_text own) changes)

-- each change was made to what those before it left, and its text is the payload of a record
abbrev pub AreMade : ReplicaValue → List ChangeValue → ReplicaValue → Type 0
AreMade old [] new = old ≡ new
AreMade old (c ∷ changes) new =
    (next : ReplicaValue) × IsRedone old c next × IsPayload (change_text old.own c) × AreMade next changes new

-- the bytes are the snapshot of a replica in a format, with its checksum where it has one, of so many bytes; and behind
-- it the records of changes, which made this replica of it
pub record IsFile (bytes : List ℕ) (format : Format) (snapshot : ℕ) (v : ReplicaValue) : Type 0 where
  pub first : ReplicaValue
  pub is_summed : Bool
  pub changes : List ChangeValue
  pub parts : bytes ≡ summed_text format is_summed first ++ records_text first.own changes
  pub value : IsSnapshot first
  pub within : length (snapshot_text_in format first) ≤ LIMIT
  pub made : AreMade first changes v
  pub size : snapshot ≡ length (summed_text format is_summed first)

-- where its snapshot has no checksum, and no record is behind that, a torn end isn't the rest of one
abbrev pub IsApart : {bytes : List ℕ} {format : Format} {count : ℕ} {v : ReplicaValue} → IsFile bytes format count v → List ℕ → Type 0
IsApart {format = format} file torn =
    file.is_summed ≡ false → file.changes ≡ [] → CutsSum (snapshot_text_in format file.first) torn → ⊥

-- the same with a torn end, which may be empty, and where these parts stand
pub record IsStored (bytes : List ℕ) (v : ReplicaValue) (layout : Layout) : Type 0 where
  pub whole : List ℕ
  pub torn : List ℕ
  pub parts : bytes ≡ whole ++ torn
  pub file : IsFile whole layout.format layout.snapshot v
  pub end : IsTorn torn
  pub apart : IsApart file torn
  pub size : layout.whole ≡ length whole
  pub all : layout.length ≡ length bytes

-- where the parts of a new file of so many bytes stand
abbrev pub new_layout : ℕ → Layout
new_layout count = record { format = Two; snapshot = count; whole = count; length = count }

-- there are bytes that hold it
pub record IsKept (v : ReplicaValue) : Type 0 where
  pub bytes : List ℕ
  pub layout : Layout
  pub stored : IsStored bytes v layout

-- ---- what is read

-- a replica that was read so far becomes this one by the records that these bytes begin with, and the rest is torn
pub record EndsAs (v : ReplicaValue) (bytes : List ℕ) (w : ReplicaValue) : Type 0 where
  pub changes : List ChangeValue
  pub torn : List ℕ
  pub parts : bytes ≡ records_text v.own changes ++ torn
  pub made : AreMade v changes w
  pub end : IsTorn torn

-- Why bytes hold no replica: they end inside of the snapshot, or are above the limit; or they are Bad, which only bytes
-- are that hold none. Memory and Device say nothing of the bytes.
abbrev pub RefusesBytes : List ℕ → Fault → Type 0
RefusesBytes bytes Memory = Unit {0}
RefusesBytes bytes Device = Unit {0}
RefusesBytes bytes Cut = snapshot_in_at bytes ≡ Err Cut
RefusesBytes bytes TooLong = LIMIT < length bytes
RefusesBytes bytes Bad = (v : ReplicaValue) (layout : Layout) → IsStored bytes v layout → ⊥
RefusesBytes bytes e = ⊥

-- the first bytes, of which there are so many, are a whole file, unless there are none
abbrev pub AreWhole : List ℕ → ℕ → Type 0
AreWhole bytes at =
    0 < at → (at ≤ length bytes) × ((format : Format) × (snapshot : ℕ) × (v : ReplicaValue) × IsFile (take at bytes) format snapshot v)
