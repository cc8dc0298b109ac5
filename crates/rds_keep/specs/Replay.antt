-- Records that are taken one after the other.
use Rattle.std.specs.Prelude.{◌≡◌, ◌+◌, ◌≤◌, ◌⊎◌, ◌^◌, ℕ, List, ◌++◌, length, refl, Option}
use Rattle.std.specs.Coded.{Coded, code_by, coded×, coded_ℕ}
use Rattle.std.specs.Io.KnownBytes.{Consumes, IsAtEnd}
use Rattle.rds_names.specs.declared.fault.Fault.{Fault}
use Rattle.rds_names.specs.declared.fault.Fault.TheVariants.{Memory, Bad, TooLong, Device}
use Rattle.rds_state.specs.Fits.{ReplicaValue, coded_replica}
use Rattle.rds_journal.specs.declared.records.TheConstants.{MOST, HEAD}
use Rattle.rds_keep.specs.Changes.{ChangeValue, IsRedone, change_text}
use Rattle.rds_keep.specs.Kept.{AreMade, EndsAs, records_text}
use Rattle.rds_keep.specs.declared.sums.TheConstants.{SUM_LENGTH}

-- a replica that was made of a snapshot and records, of so many bytes
pub record ReplayValue : Type 0 where
  pub replica : ReplicaValue
  pub whole : ℕ

abbrev pub coded_replay : Coded ReplayValue
coded_replay =
    code_by (ReplicaValue × ℕ) (coded× coded_replica coded_ℕ) (λ r. (r.replica, r.whole))
    (λ p. record { replica = p.0; whole = p.1 }) (λ _. refl)

-- the payload is the text of a change that made the new replica of the old
abbrev pub Redoes : ReplicaValue → List ℕ → ReplicaValue → Type 0
Redoes old payload new = (c : ChangeValue) × (payload ≡ change_text old.own c) × IsRedone old c new

-- memory ran out, or the payload is Bad, since it is the text of no change that fits
abbrev pub RefusesPayload : ReplicaValue → List ℕ → Fault → Type 0
RefusesPayload old payload e = (e ≡ Memory) ⊎ ((e ≡ Bad) × ((new : ReplicaValue) → Redoes old payload new → ⊥))

-- the bytes begin with the records of changes that made the new replica of the old, and a rest is behind them
pub record TakesRecords (old new : ReplayValue) (bytes rest : List ℕ) : Type 0 where
  pub changes : List ChangeValue
  pub parts : bytes ≡ records_text old.replica.own changes ++ rest
  pub made : AreMade old.replica changes new.replica
  pub whole : new.whole ≡ old.whole + length (records_text old.replica.own changes)

-- Memory ran out, or a rest is refused: TooLong where the bytes can't be counted, or Bad, since it isn't the end of a
-- file however it goes on.
abbrev pub RefusesRest : ReplayValue → List ℕ → Fault → Type 0
RefusesRest now rest e =
    (e ≡ Memory)
    ⊎ (((e ≡ TooLong) × (2 ^ 64 ≤ now.whole + length rest))
    ⊎ ((e ≡ Bad) × ((more : List ℕ) (w : ReplicaValue) → EndsAs now.replica (rest ++ more) w → ⊥)))

-- the records before a rest were taken, and that is refused
pub record StopsAtRecord (old new : ReplayValue) (bytes : List ℕ) (e : Fault) : Type 0 where
  pub rest : List ℕ
  pub taken : TakesRecords old new bytes rest
  pub refused : RefusesRest new rest e

-- known bytes lose a prefix
abbrev pub Loses : Option (List ℕ) → Option (List ℕ) → Type 0
Loses before after = (lost : List ℕ) × Consumes before after lost

-- Known bytes lose a prefix, which is held behind what was held. More bytes are held than a record may have behind
-- that of a checksum, or they are all that there is.
pub record HoldsMore (before after : Option (List ℕ)) (old new : List ℕ) : Type 0 where
  pub given : List ℕ
  pub consumed : Consumes before after given
  pub held : new ≡ old ++ given
  pub end : length new ≤ MOST + HEAD + SUM_LENGTH → IsAtEnd after

-- known bytes were read behind others, and the records before a rest were taken
pub record ReadsRecords (old new : ReplayValue) (before after : Option (List ℕ)) (held rest : List ℕ) : Type 0 where
  pub given : List ℕ
  pub consumed : Consumes before after given
  pub taken : TakesRecords old new (held ++ given) rest

-- so were these, and the rest is refused, unless a call failed
pub record StopsReading (old new : ReplayValue) (before after : Option (List ℕ)) (held : List ℕ) (e : Fault) : Type 0 where
  pub rest : List ℕ
  pub read : ReadsRecords old new before after held rest
  pub refused : (e ≡ Device) ⊎ RefusesRest new rest e
