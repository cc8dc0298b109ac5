-- Names one after the other.
use Rattle.std.proofs.Common.{◌++◌, ℕ, List, Result, Ok}
use Rattle.rds_names.specs.AndThen.{◌>>=◌}
use Rattle.rds_names.specs.declared.fault.Fault.{Fault}
use Rattle.rds_store.specs.Documents.{names_in}

-- the names, with those that texts are
abbrev pub names_with : List (List ℕ) → List (List ℕ) → Result (List (List ℕ)) Fault
names_with names texts = names_in texts >>= λ ns. Ok (names ++ ns)
