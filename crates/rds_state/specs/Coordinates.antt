-- A state, coordinate by coordinate: a life for each dot, and a number for each key, replica and which.
use Rattle.std.specs.Prelude.{◌≡◌, ℕ, ◌≤◌, ◌<◌, true, max, Option, is_some}
use Rattle.rds_dots.specs.declared.dot.Dot.{Dot}
use Rattle.rds_counts.specs.Place.{Place}
use Rattle.rds_life.specs.Life.{Life, AreNoLater, Agree, join_life}

pub record Coordinates : Type 0 where
  pub life : Dot → Option Life
  pub number : Place → ℕ

-- at each coordinate the first is at most the second
pub record AtMost (a b : Coordinates) : Type 0 where
  pub lives : AreNoLater a.life b.life
  pub numbers : (q : Place) → a.number q ≤ b.number q

-- no dot is live in both with different entries
pub record AreCompatible (a b : Coordinates) : Type 0 where
  pub each_dot : (d : Dot) → Agree (a.life d) (b.life d)

-- the later life and the greater number
abbrev pub join : Coordinates → Coordinates → Coordinates
join a b = record { life = λ d. join_life (a.life d) (b.life d); number = λ q. max (a.number q) (b.number q) }

-- one of a state's coordinates
pub data Coordinate : Type 0 where
  AtDot : Dot → Coordinate
  AtPlace : Place → Coordinate

-- a dot that isn't unseen, or a number above 0
abbrev pub IsComponent : Coordinates → Coordinate → Type 0
IsComponent a (AtDot d) = is_some (a.life d) ≡ true
IsComponent a (AtPlace q) = 0 < a.number q
