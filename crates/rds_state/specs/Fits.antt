-- Replicas, and the states that fit into a roster.
use Rattle.std.specs.Prelude.{◌≡◌, ℕ, ◌<◌, true, is_some, List, length, refl}
use Rattle.std.specs.Coded.{Coded, code_by, coded×, coded_ℕ, coded_list}
use Rattle.rds_names.specs.Roster.{RosterValue}
use Rattle.rds_dots.specs.declared.dot.Dot.{Dot}
use Rattle.rds_counts.specs.Place.{Place}
use Rattle.rds_state.specs.Coordinates.{Coordinates}
use Rattle.rds_state.specs.Value.{StateValue, coordinates, coded_state}

-- all replica numbers of the state are below this one
pub record Fits (replicas : ℕ) (a : Coordinates) : Type 0 where
  pub dots : (d : Dot) → is_some (a.life d) ≡ true → d.replica < replicas
  pub numbers : (q : Place) → 0 < a.number q → q.replica < replicas

pub record ReplicaValue : Type 0 where
  pub roster : RosterValue
  pub own : ℕ
  pub state : StateValue

-- the own number and those of the state are below the roster's length
pub record IsReplica (v : ReplicaValue) : Type 0 where
  pub own : v.own < length v.roster.names
  pub fits : Fits (length v.roster.names) (coordinates v.state)

abbrev pub coded_roster : Coded RosterValue
coded_roster = code_by (List ℕ × List (List ℕ)) (coded× (coded_list coded_ℕ) (coded_list (coded_list coded_ℕ))) (λ r. (r.group, r.names)) (λ p. record { group = p.0; names = p.1 }) (λ _. refl)

abbrev pub coded_replica : Coded ReplicaValue
coded_replica = code_by (RosterValue × (ℕ × StateValue)) (coded× coded_roster (coded× coded_ℕ coded_state)) (λ v. (v.roster, (v.own, v.state))) (λ p. record { roster = p.0; own = p.1.0; state = p.1.1 }) (λ _. refl)
