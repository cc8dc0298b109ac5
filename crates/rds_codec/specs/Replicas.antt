-- Whether a roster, an own number and a state are a replica, as a test.
use Rattle.std.specs.Prelude.{ℕ, Bool, ◌&&◌, nat_lt, length}
use Rattle.std.specs.List.{list_all}
use Rattle.std.specs.FinMap as map
use Rattle.rds_dots.specs.declared.dot.Dot.{Dot}
use Rattle.rds_counts.specs.Place.{Place}
use Rattle.rds_state.specs.Value.{StateValue}
use Rattle.rds_state.specs.Fits.{ReplicaValue}

-- all replica numbers of the state are below this one
abbrev pub is_within : ℕ → StateValue → Bool
is_within replicas v =
    list_all (λ (d : Dot). nat_lt d.replica replicas) (map.keys v.lives)
    && list_all (λ (q : Place). nat_lt q.replica replicas) (map.keys v.counts)

-- the own number and those of the state are below the roster's length
unfoldable pub is_replica : ReplicaValue → Bool
is_replica v = nat_lt v.own (length v.roster.names) && is_within (length v.roster.names) v.state
