-- A value that bytes begin with.
use Rattle.std.specs.Prelude.{◌≡◌, ◌+◌, ◌<◌, ◌⊎◌, ℕ, List, [], ◌++◌, length, Option, Ok, Err}
use Rattle.std.specs.Io.KnownBytes.{Consumes}
use Rattle.sha2.specs.Hashers.{Holds256}
use Rattle.sha2.specs.declared.Sha256.{Sha256}
use Rattle.rds_names.specs.declared.fault.Fault.{Fault}
use Rattle.rds_names.specs.declared.fault.Fault.TheVariants.{Memory, Cut, Bad, TooLong, Device}
use Rattle.rds_bytes.specs.Reading.{Reader}
use Rattle.rds_codec.specs.declared.limits.TheConstants.{LIMIT}
use Rattle.rds_keep.specs.Feeding.{EachIsByte}

-- Known bytes lose a prefix. With those of a front, so many bytes in all, a value is whole, and some are behind it. A
-- hasher holds those up to the last ones, with which it isn't whole, unless there are none.
pub record Leads {V : Type 0} (read : Reader V) (front : List ℕ) (before after : Option (List ℕ)) (v : V) (count : ℕ)
    (behind : List ℕ) (hasher : Sha256) (last : List ℕ) : Type 0 where
  pub given : List ℕ
  pub consumed : Consumes before after given
  pub whole : (more : List ℕ) → read (front ++ (given ++ more)) ≡ Ok (v, behind ++ more)
  pub size : count ≡ length front + length given
  pub bytes : EachIsByte (front ++ given)
  pub hashed : List ℕ
  pub holds : Holds256 hasher hashed
  pub parts : front ++ given ≡ hashed ++ last
  pub short : (hashed ≡ []) ⊎ (read hashed ≡ Err Cut)

-- memory ran out, or the bytes are Bad, since they are refused whatever follows them
abbrev pub RefusesStep : {V : Type 0} → Reader V → Fault → Type 0
RefusesStep read e = (e ≡ Memory) ⊎ ((e ≡ Bad) × ((d : Fault) × ((more : List ℕ) → read more ≡ Err d)))

-- why no value is at the front of bytes
abbrev pub RefusesFront : {V : Type 0} → Reader V → List ℕ → Fault → Type 0
RefusesFront read bytes Memory = Unit {0}
RefusesFront read bytes Device = Unit {0}
RefusesFront read bytes Cut = read bytes ≡ Err Cut
RefusesFront read bytes TooLong = LIMIT < length bytes
RefusesFront read bytes Bad = (e : Fault) × (read bytes ≡ Err e)
RefusesFront read bytes e = ⊥
