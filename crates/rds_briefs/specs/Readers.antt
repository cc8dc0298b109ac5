-- What is asked of reading where all that was read is written again and compared: that each text is read as what it
-- says.
use Rattle.std.specs.Prelude.{◌≡◌, Result, Ok, Err}
use Rattle.rds_names.specs.declared.fault.Fault.{Fault}
use Rattle.rds_names.specs.declared.fault.Fault.TheVariants.{Memory}

-- it succeeded so, unless memory ran out
abbrev pub OrMemory : {X : Type 0} → (X → Type 0) → Result X Fault → Type 0
OrMemory Is (Ok x) = Is x
OrMemory Is (Err e) = e ≡ Memory
