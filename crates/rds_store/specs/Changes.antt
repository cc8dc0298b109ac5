-- What changed a document since it was kept.
use Rattle.std.specs.Prelude.{◌≡◌, Bool, false, List, [], ◌∷◌, refl}
use Rattle.std.specs.Coded.{Coded, code_by, coded×}
use Rattle.rds_names.specs.Roster.{Begins}
use Rattle.rds_state.specs.Coordinates.{Coordinates, join}
use Rattle.rds_state.specs.Fits.{ReplicaValue, coded_replica}
use Rattle.rds_state.specs.Value.{StateValue, coordinates}

-- a state that was joined with deltas, one after the other
abbrev pub with_deltas : Coordinates → List StateValue → Coordinates
with_deltas a [] = a
with_deltas a (d ∷ ds) = with_deltas (join a (coordinates d)) ds

-- what became of a replica: it was joined with deltas, and its roster is the same, unless it is said to have grown
pub record IsSince (before : ReplicaValue) (deltas : List StateValue) (grown : Bool) (now : ReplicaValue) : Type 0 where
  pub joined : coordinates now.state ≡ with_deltas (coordinates before.state) deltas
  pub begins : Begins before.roster now.roster
  pub roster : grown ≡ false → now.roster ≡ before.roster
  pub own : now.own ≡ before.own

-- a document, and what it was when it was kept
pub record DraftValue : Type 0 where
  pub document : ReplicaValue
  pub kept : ReplicaValue

abbrev pub coded_draft : Coded DraftValue
coded_draft =
    code_by (ReplicaValue × ReplicaValue) (coded× coded_replica coded_replica) (λ d. (d.document, d.kept))
    (λ p. record { document = p.0; kept = p.1 }) (λ _. refl)
