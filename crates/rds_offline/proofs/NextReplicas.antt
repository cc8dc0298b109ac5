-- A new replica that takes what another has seen.
use Rattle.std.proofs.Common.{◌≡◌, ◌≢◌, ◌∙◌, ℕ, List, max, Option, None, Err, ap, ap₂, sym, refl, subst, arith}
use Rattle.std.specs.FinMap as map
use Rattle.rds_names.specs.declared.fault.Fault.{Fault}
use Rattle.rds_names.specs.declared.fault.Fault.TheVariants.{Conflict, Memory, OwnAhead}
use Rattle.rds_names.specs.declared.fault.Own.{Own}
use Rattle.rds_dots.specs.declared.dot.Dot.{Dot}
use Rattle.rds_dots.specs.Dots.{dot_cmp}
use Rattle.rds_counts.specs.Counted.{Counted, number, number_from}
use Rattle.rds_counts.specs.Place.{Place, place_cmp}
use Rattle.rds_life.specs.Life.{Agree, Life, Lived, join_life}
use Rattle.rds_state.specs.Ahead.{TakeGives}
use Rattle.rds_state.specs.Coordinates.{join}
use Rattle.rds_state.specs.Fits.{ReplicaValue}
use Rattle.rds_state.specs.Value.{StateValue, coordinates}
use Rattle.rds_offline.specs.Next.{RefusesNext, nothing}

-- the join of nothing and a state is that state
pub joins_all : (v : StateValue) → join (coordinates nothing) (coordinates v) ≡ coordinates v
joins_all v = λ i. record { life = λ d. lives d i; number = λ q. numbers q i }
  where
    lives : (d : Dot) → join_life (map.get nothing.lives d) (map.get v.lives d) ≡ map.get v.lives d
    lives d = ap (λ (l : Option Life). join_life l (map.get v.lives d)) (map.get-empty dot_cmp d)

    numbers : (q : Place) → max (number nothing.counts q) (number v.counts q) ≡ number v.counts q
    numbers q =
        let none : number nothing.counts q ≡ 0 = ap number_from (map.get-empty place_cmp q) in
        omega (arith, none)

-- a state without lives and counters is nothing
is_nothing : (s : StateValue) → s.lives ≡ map.empty → s.counts ≡ map.empty → s ≡ nothing
is_nothing s lives counts = ap₂ made lives counts
  where
    made : Lived → Counted → StateValue
    made l c = record { lives = l; counts = c }

-- so a state that was joined into one is that state
pub all_joined : (s v new : StateValue) → s.lives ≡ map.empty → s.counts ≡ map.empty → coordinates new ≡ join (coordinates s) (coordinates v) → coordinates new ≡ coordinates v
all_joined s v new lives counts joined = joined ∙ ap (λ (a : StateValue). join (coordinates a) (coordinates v)) (is_nothing s lives counts) ∙ joins_all v

-- nothing conflicts with nothing
agrees : (v : Lived) (d : Dot) → Agree (map.get nothing.lives d) (map.get v d)
agrees v d = subst (λ (l : Option Life). Agree l (map.get v d)) (sym (map.get-empty dot_cmp d)) (with_none (map.get v d))
  where
    with_none : (l : Option Life) → Agree None l
    with_none l = tt

-- what the take of a new replica is refused by, but for what its name has already, is Memory
refused : (source : ReplicaValue) (name : List ℕ) (own : ℕ) (fault : Fault) → ((o : Own) → fault ≢ OwnAhead o) → TakeGives {T = Unit {0}} nothing own source.state (Err fault) → RefusesNext source name fault
refused source name own Memory other gives = refl
refused source name own (Conflict r n) other gives = absurd (gives.1.here (agrees source.state.lives _))
refused source name own (OwnAhead o) other gives = absurd (other o refl)
refused source name own fault other gives = absurd (gives.1)

pub no_memory : (source : ReplicaValue) (name : List ℕ) (s : StateValue) (own : ℕ) (fault : Fault) → s.lives ≡ map.empty → s.counts ≡ map.empty → ((o : Own) → fault ≢ OwnAhead o)
    → TakeGives {T = Unit {0}} s own source.state (Err fault) → RefusesNext source name fault
no_memory source name s own fault lives counts other gives =
    refused source name own fault other (subst (λ (a : StateValue). TakeGives {T = Unit {0}} a own source.state (Err fault)) (is_nothing s lives counts) gives)
