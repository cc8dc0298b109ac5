-- Documents in files.
use Rattle.std.specs.Prelude.{ℕ, List, refl}
use Rattle.std.specs.Coded.{Coded, code_by, coded×, coded_list, coded_ℕ}
use Rattle.rds_state.specs.Fits.{ReplicaValue, coded_replica}

-- a document of the file at a path, and what the file holds
pub record OpenValue : Type 0 where
  pub path : List ℕ
  pub document : ReplicaValue
  pub kept : ReplicaValue

abbrev pub coded_open : Coded OpenValue
coded_open =
    code_by (List ℕ × (ReplicaValue × ReplicaValue)) (coded× (coded_list coded_ℕ) (coded× coded_replica coded_replica))
    (λ f. (f.path, (f.document, f.kept)))
    (λ p. record { path = p.0; document = p.1.0; kept = p.1.1 }) (λ _. refl)
