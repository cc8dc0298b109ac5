-- What a call answers that may find no memory at any point.
use Rattle.std.specs.Prelude.{◌≡◌, ◌⊎◌, Result, Err}
use Rattle.rds_names.specs.declared.fault.Fault.{Fault}
use Rattle.rds_names.specs.declared.fault.Fault.TheVariants.{Memory}

-- the answer is the one that is due, or Memory
abbrev pub MayGive : {X : Type 0} → Result X Fault → Result X Fault → Type 0
MayGive result due = (result ≡ Err Memory) ⊎ (result ≡ due)
