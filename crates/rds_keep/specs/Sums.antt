-- The record behind a snapshot that has the checksum of its bytes.
use Rattle.std.specs.Prelude.{◌≡◌, ◌<◌, ◌≤◌, ◌⊎◌, ℕ, Bool, true, false, List, [], ◌∷◌, ◌++◌, length, Result, Ok, Err}
use Rattle.std.specs.Global.{Vec}
use Rattle.rds_names.specs.declared.fault.Fault.{Fault}
use Rattle.rds_names.specs.declared.fault.Fault.TheVariants.{Memory, TooLong}
use Rattle.rds_codec.specs.StateTexts.{snapshot_text}
use Rattle.rds_codec.specs.declared.limits.TheConstants.{LIMIT}
use Rattle.sha2.specs.Sha256.{sha256}
use Rattle.rds_state.specs.Fits.{ReplicaValue}
use Rattle.rds_codec.specs.FormatTexts.{snapshot_text_in}
use Rattle.rds_codec.specs.declared.formats.Format.{Format}
use Rattle.rds_codec.specs.declared.formats.Format.TheVariants.{Two}
use Rattle.rds_journal.specs.Records.{IsBegun, IsPayload, record_text}

-- the payload of a record with this checksum
abbrev pub sum_payload : List ℕ → List ℕ
sum_payload sum = 3 ∷ sum

-- what stands behind a snapshot of these bytes: the record of their SHA-256, where it has one
abbrev pub sum_text : Bool → List ℕ → List ℕ
sum_text true bytes = record_text (sum_payload (sha256 bytes))
sum_text false bytes = []

-- a snapshot in a format, and that record where it has one
abbrev pub summed_text : Format → Bool → ReplicaValue → List ℕ
summed_text format is_summed v = snapshot_text_in format v ++ sum_text is_summed (snapshot_text_in format v)

-- the bytes of a new file: a snapshot in format 2, and the record of its checksum
abbrev pub file_text : ReplicaValue → List ℕ
file_text v = summed_text Two true v

-- the bytes of a new file; or memory ran out, or its snapshot is above the limit
abbrev pub EncodesFile : ReplicaValue → Result (Vec ℕ) Fault → Type 0
EncodesFile v (Ok bytes) = (bytes.items ≡ file_text v) × (length (snapshot_text v) ≤ LIMIT)
EncodesFile v (Err e) = (e ≡ Memory) ⊎ ((e ≡ TooLong) × (LIMIT < length (snapshot_text v)))

-- ---- what is read behind a snapshot

-- no record of this checksum stands first
abbrev pub HasNoSum : List ℕ → List ℕ → Type 0
HasNoSum sum bytes = (rest : List ℕ) → bytes ≡ record_text (sum_payload sum) ++ rest → ⊥

-- a record of another checksum stands first
pub record HasOtherSum (sum bytes : List ℕ) : Type 0 where
  pub told : List ℕ
  pub rest : List ℕ
  pub parts : bytes ≡ record_text (sum_payload told) ++ rest
  pub payload : IsPayload (sum_payload told)
  pub other : told ≡ sum → ⊥

-- what stands behind a snapshot of these bytes is no record, but the rest of a checksum's, which begins inside of them
pub record CutsSum (bytes behind : List ℕ) : Type 0 where
  pub before : List ℕ
  pub told : List ℕ
  pub parts : bytes ++ behind ≡ before ++ record_text (sum_payload told)
  pub size : length told ≡ 32
  pub inside : length before < length bytes
  pub some : 0 < length behind
  pub none : IsBegun behind → ⊥
