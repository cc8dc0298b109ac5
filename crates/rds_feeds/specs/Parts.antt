-- What is made of what was read.
use Rattle.std.specs.Prelude.{◌≡◌, ℕ, ◌⊎◌, List, Result, Ok, Err}
use Rattle.rds_names.specs.declared.fault.Fault.{Fault}
use Rattle.rds_names.specs.declared.fault.Fault.TheVariants.{Memory, Cut}
use Rattle.rds_bytes.specs.Reading.{◌>>=◌, Reader}
use Rattle.rds_bytes.proofs.Format.{IsBytes}

-- some bytes are read as the part
abbrev pub WasRead : {A : Type 0} → Reader A → A → Type 0
WasRead f part = (bytes : List ℕ) × (rest : List ℕ) × (f bytes ≡ Ok (part, rest)) × IsBytes bytes

-- a value, and what is made of it in its place
abbrev pub makes : {V W : Type 0} → Reader V → (V → Result W Fault) → Reader W
makes f make bytes = f bytes >>= λ x. make x.0 >>= λ w. Ok (w, x.1)

-- memory ran out, or no other value is made of it
abbrev pub RefusesValue : {W : Type 0} → Result W Fault → Fault → Type 0
RefusesValue made e = (e ≡ Memory) ⊎ ((e ≡ Cut → ⊥) × (made ≡ Err e))
