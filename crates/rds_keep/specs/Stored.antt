-- How a file is read from its front.
use Rattle.std.specs.Prelude.{◌≡◌, ◌+◌, ◌≤◌, ◌⊎◌, ◌^◌, ℕ, Bool, false, List, ◌++◌, length, Option}
use Rattle.std.specs.Io.KnownBytes.{Consumes}
use Rattle.sha2.specs.Sha256.{sha256}
use Rattle.rds_names.specs.declared.fault.Fault.{Fault}
use Rattle.rds_names.specs.declared.fault.Fault.TheVariants.{Bad, TooLong}
use Rattle.rds_state.specs.Fits.{ReplicaValue}
use Rattle.rds_codec.specs.FormatTexts.{snapshot_text_in}
use Rattle.rds_codec.specs.StateTexts.{IsSnapshot}
use Rattle.rds_codec.specs.declared.formats.Format.{Format}
use Rattle.rds_codec.specs.declared.limits.TheConstants.{LIMIT}
use Rattle.rds_journal.specs.Records.{IsTorn}
use Rattle.rds_keep.specs.Sums.{CutsSum, HasNoSum, summed_text}

-- a snapshot of so many bytes in a format, within the limit, and their checksum
pub record IsSummedSnapshot (format : Format) (v : ReplicaValue) (count : ℕ) (sum : List ℕ) : Type 0 where
  pub value : IsSnapshot v
  pub size : count ≡ length (snapshot_text_in format v)
  pub within : length (snapshot_text_in format v) ≤ LIMIT
  pub hash : sum ≡ sha256 (snapshot_text_in format v)

-- the bytes of a snapshot, and some behind it
abbrev pub first_and : Format → ReplicaValue → List ℕ → List ℕ
first_and format v behind = snapshot_text_in format v ++ behind

-- so is one with the record of its checksum, where it has one
pub record IsFront (format : Format) (is_summed : Bool) (v : ReplicaValue) (count : ℕ) : Type 0 where
  pub value : IsSnapshot v
  pub size : count ≡ length (summed_text format is_summed v)
  pub within : length (snapshot_text_in format v) ≤ LIMIT

-- the bytes of both, and some behind them
abbrev pub front_and : Format → Bool → ReplicaValue → List ℕ → List ℕ
front_and format is_summed v behind = summed_text format is_summed v ++ behind

-- where a snapshot has no record of its checksum, none stands behind it, nor the rest of one
abbrev pub IsAllOf : Format → Bool → ReplicaValue → List ℕ → Type 0
IsAllOf format is_summed v behind =
    is_summed ≡ false
    → HasNoSum (sha256 (snapshot_text_in format v)) behind × (CutsSum (snapshot_text_in format v) behind → ⊥)

-- known bytes lose a prefix, which is a snapshot and what is behind it
pub record LosesFirst (before after : Option (List ℕ)) (format : Format) (v : ReplicaValue) (behind : List ℕ) : Type 0 where
  pub given : List ℕ
  pub consumed : Consumes before after given
  pub parts : given ≡ first_and format v behind

-- why a rest behind so many bytes ends no file: it is no torn end, or too many to be counted
abbrev pub RefusesEnd : ℕ → List ℕ → Fault → Type 0
RefusesEnd whole rest e = ((e ≡ Bad) × (IsTorn rest → ⊥)) ⊎ ((e ≡ TooLong) × (2 ^ 64 ≤ whole + length rest))

-- known bytes lose a prefix, which is such a front and what is behind it
pub record LosesFront (before after : Option (List ℕ)) (format : Format) (is_summed : Bool) (v : ReplicaValue)
    (behind : List ℕ) : Type 0 where
  pub given : List ℕ
  pub consumed : Consumes before after given
  pub parts : given ≡ front_and format is_summed v behind
