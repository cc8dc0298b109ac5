-- What decoding answers for all of its input, in terms of the texts alone.
use Rattle.std.specs.Prelude.{◌≡◌, ◌≢◌, ◌==◌, if◌then◌else◌, ℕ, ◌<◌, ◌≤◌, ◌⊎◌, List, [], ◌++◌, length, Result, Ok, Err, IfOk, IfErr}
use Rattle.rds_names.specs.declared.fault.Fault.{Fault}
use Rattle.rds_names.specs.declared.fault.Fault.TheVariants.{Memory, Cut, Bad, Extra, TooLong}
use Rattle.rds_codec.specs.declared.limits.TheConstants.{LIMIT}
use Rattle.rds_codec.specs.Kinds.{Kind}
use Rattle.rds_bytes.specs.Reading.{◌>>=◌, Reader, Reads}

-- all of the bytes
abbrev pub all_of : {A : Type 0} → Reader A → List ℕ → Result A Fault
all_of f bytes = f bytes >>= λ x. if length x.1 == 0 then Ok x.0 else Err Extra

-- the bytes are the value's text
pub record IsTextOf {V : Type 0} (kind : Kind V) (bytes : List ℕ) (v : V) : Type 0 where
  pub is_value : kind.is_value v
  pub spelled : bytes ≡ kind.text v

-- a proper prefix of the bytes is a text
pub record BeginsWithText {V : Type 0} (kind : Kind V) (bytes : List ℕ) : Type 0 where
  pub value : V
  pub rest : List ℕ
  pub is_value : kind.is_value value
  pub more : rest ≢ []
  pub spelled : bytes ≡ kind.text value ++ rest

-- the answer, unless memory ran out
abbrev pub GivesOrMemory : {V : Type 0} → Result V Fault → Result V Fault → Type 0
GivesOrMemory result wanted = (result ≡ wanted) ⊎ (result ≡ Err Memory)

-- within the limit, what reading all of the bytes from the left gives, unless memory ran out
abbrev pub ReadsAll : {V : Type 0} → Reader V → List ℕ → Result V Fault → Type 0
ReadsAll reader bytes result = length bytes ≤ LIMIT → Reads (λ v. v) result (all_of reader bytes)

-- each refusal of decoding
abbrev pub IsOtherFault : Fault → Type 0
IsOtherFault e = (e ≡ Memory) ⊎ ((e ≡ TooLong) ⊎ ((e ≡ Extra) ⊎ ((e ≡ Cut) ⊎ (e ≡ Bad))))

-- Ok exactly at a text within the limit, TooLong exactly above it, Extra exactly where a proper prefix is a
-- text; else Cut or Bad, or memory ran out.
pub record Decodes {V : Type 0} (kind : Kind V) (bytes : List ℕ) (result : Result V Fault) : Type 0 where
  pub value : IfOk result (λ v. (length bytes ≤ LIMIT) × IsTextOf kind bytes v)
  pub found : (v : V) → length bytes ≤ LIMIT → IsTextOf kind bytes v → GivesOrMemory result (Ok v)
  pub long : LIMIT < length bytes → result ≡ Err TooLong
  pub long_only : result ≡ Err TooLong → LIMIT < length bytes
  pub extra : length bytes ≤ LIMIT → BeginsWithText kind bytes → GivesOrMemory result (Err Extra)
  pub extra_only : result ≡ Err Extra → (length bytes ≤ LIMIT) × BeginsWithText kind bytes
  pub other : IfErr result IsOtherFault
