-- What writing and reading a change answer.
use Rattle.std.specs.Prelude.{◌≡◌, ◌<◌, ◌⊎◌, ℕ, List, length}
use Rattle.rds_names.specs.declared.fault.Fault.{Fault}
use Rattle.rds_names.specs.declared.fault.Fault.TheVariants.{Memory, Bad, TooLong}
use Rattle.rds_codec.specs.Decoding.{IsTextOf}
use Rattle.rds_codec.specs.Kinds.{Kind}
use Rattle.rds_journal.specs.declared.records.TheConstants.{MOST}

-- why the text of a change isn't written: memory ran out, or it is longer than the payload of a record
abbrev pub RefusesChange : List ℕ → Fault → Type 0
RefusesChange text e = (e ≡ Memory) ⊎ ((e ≡ TooLong) × (MOST < length text))

-- no value of the kind has this text
abbrev pub IsNoText : {V : Type 0} → Kind V → List ℕ → Type 0
IsNoText {V} kind bytes = (v : V) → IsTextOf kind bytes v → ⊥

-- memory ran out, or the bytes are Bad, since no value has this text
abbrev pub HasNoText : {V : Type 0} → Kind V → List ℕ → Fault → Type 0
HasNoText kind bytes e = (e ≡ Memory) ⊎ ((e ≡ Bad) × IsNoText kind bytes)
