-- Steady readers: what is read stays read whatever follows, and a fault other than Cut stays that fault.
use Rattle.std.specs.Prelude.{◌≡◌, ℕ, List, ◌++◌, Result, Ok, Err}
use Rattle.rds_names.specs.declared.fault.Fault.{Fault}
use Rattle.rds_names.specs.declared.fault.Fault.TheVariants.{Cut}
use Rattle.rds_bytes.specs.Reading.{Reader}

-- what a reading says of the reading of more bytes
abbrev pub Agrees : {A : Type 0} → List ℕ → Result (A × List ℕ) Fault → Result (A × List ℕ) Fault → Type 0
Agrees more (Ok x) later = later ≡ Ok (x.0, x.1 ++ more)
Agrees more (Err e) later = (e ≡ Cut → ⊥) → later ≡ Err e

abbrev pub IsSteady : {A : Type 0} → Reader A → Type 0
IsSteady f = (bytes more : List ℕ) → Agrees more (f bytes) (f (bytes ++ more))
