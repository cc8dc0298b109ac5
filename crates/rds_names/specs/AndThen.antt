-- What follows from a value, or the fault that came in its place.
use Rattle.std.specs.Prelude.{Result, Ok, Err}
use Rattle.rds_names.specs.declared.fault.Fault.{Fault}

infixl 10 ◌>>=◌
abbrev pub ◌>>=◌ : {X Y : Type 0} → Result X Fault → (X → Result Y Fault) → Result Y Fault
(Ok x) >>= f = f x
(Err e) >>= f = Err e
