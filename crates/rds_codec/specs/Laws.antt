-- The laws of the texts of a kind.
use Rattle.std.specs.Prelude.{◌≡◌, ◌≤◌, ℕ, List, ◌++◌, ◌⊎◌, length, Result, Err}
use Rattle.rds_names.specs.declared.fault.Fault.{Fault}
use Rattle.rds_names.specs.declared.fault.Fault.TheVariants.{Memory}
use Rattle.rds_bytes.specs.Reading.{Reader}
use Rattle.rds_codec.specs.declared.limits.TheConstants.{LIMIT}
use Rattle.rds_codec.specs.Decoding.{IsTextOf, Decodes, ReadsAll}
use Rattle.rds_codec.specs.Kinds.{Kind}

-- the value has a text, which is within the limit
pub record HasText {V : Type 0} (kind : Kind V) (v : V) : Type 0 where
  pub is_value : kind.is_value v
  pub within : length (kind.text v) ≤ LIMIT

-- no text begins another, and one text has one value
abbrev pub StandApart : {V : Type 0} → Kind V → Type 0
StandApart {V} kind =
    (v w : V) (x y : List ℕ) → HasText kind v → HasText kind w
    → kind.text v ++ x ≡ kind.text w ++ y → (v ≡ w) × (x ≡ y)

-- where more replicas are known, each text is still that of the same value
abbrev pub IsSameAmongMore : {V : Type 0} → (ℕ → Kind V) → Type 0
IsSameAmongMore {V} kind =
    (few more : ℕ) (bytes : List ℕ) (v : V) → few ≤ more → IsTextOf (kind few) bytes v → IsTextOf (kind more) bytes v

-- two answers for the same bytes are one, unless memory ran out
abbrev pub DecodesOnce : {V : Type 0} → Kind V → Reader V → Type 0
DecodesOnce {V} kind reader =
    (bytes : List ℕ) (r s : Result V Fault) → Decodes kind bytes r → ReadsAll reader bytes r
    → Decodes kind bytes s → ReadsAll reader bytes s → (r ≡ s) ⊎ ((r ≡ Err Memory) ⊎ (s ≡ Err Memory))
