-- A state as a value: the lives of the seen dots, and the numbers above 0.
use Rattle.std.specs.Prelude.{ℕ, ◌+◌, refl}
use Rattle.std.specs.Coded.{Coded, code_by, coded×}
use Rattle.std.specs.FinMap as map
use Rattle.rds_life.specs.Life.{Lived}
use Rattle.rds_life.specs.Code.{coded_lives}
use Rattle.rds_counts.specs.Counted.{Counted, number, coded_counts}
use Rattle.rds_state.specs.Coordinates.{Coordinates}

pub record StateValue : Type 0 where
  pub lives : Lived
  pub counts : Counted

-- the state, coordinate by coordinate
abbrev pub coordinates : StateValue → Coordinates
coordinates v = record { life = λ d. map.get v.lives d; number = λ q. number v.counts q }

-- how many components it has
abbrev pub size : StateValue → ℕ
size v = map.len v.lives + map.len v.counts

abbrev pub coded_state : Coded StateValue
coded_state = code_by (Lived × Counted) (coded× coded_lives coded_counts) (λ v. (v.lives, v.counts)) (λ p. record { lives = p.0; counts = p.1 }) (λ _. refl)
