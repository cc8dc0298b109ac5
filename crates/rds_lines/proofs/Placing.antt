-- Keys that are a path.
use Rattle.std.proofs.Common.{◌≡◌, ℕ, Bool, true, false, List, length, Result, Ok, Err, cond, nat_le}
use Rattle.rds_names.specs.declared.fault.Fault.{Fault}
use Rattle.rds_names.specs.declared.fault.Fault.TheVariants.{BadPath}
use Rattle.rds_names.specs.Path.{path_of_keys}

pub keys_of_path : (keys path : List (List ℕ)) → path_of_keys keys ≡ Ok path → path ≡ keys
keys_of_path keys path is = by (nat_le (length keys) 8) is
  where
    by : (b : Bool) → ◌≡◌ {A = Result (List (List ℕ)) Fault} (cond b (Ok keys) (Err BadPath)) (Ok path) → path ≡ keys
    by true is = cc
    by false is = absurd cc
