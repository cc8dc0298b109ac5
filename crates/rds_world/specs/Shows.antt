-- What the document of a replica in a list shows.
use Rattle.std.specs.Prelude.{◌≡◌, ℕ, List, None, Some, slice_get}
use Rattle.rds_names.specs.declared.fault.Fault.{Fault}
use Rattle.rds_names.specs.declared.fault.Fault.TheVariants.{NoSuch}
use Rattle.rds_state.specs.Fits.{ReplicaValue}
use Rattle.rds_tree.specs.Document.{document}
use Rattle.rds_tree.specs.Shown.{Shown}
use Rattle.rds_tree.specs.View.{view_of}

-- the replica with this number is there, and this is its document at the path
pub record ShowsAt (replicas : List ReplicaValue) (number : ℕ) (path : List (List ℕ)) (view : Shown) : Type 0 where
  pub replica : ReplicaValue
  pub there : slice_get replicas number ≡ Some replica
  pub shown : view ≡ view_of (document replica.state) path

-- there is none with this number
abbrev pub IsNoSuch : List ReplicaValue → ℕ → Fault → Type 0
IsNoSuch replicas number fault = (fault ≡ NoSuch) × (slice_get replicas number ≡ None)
