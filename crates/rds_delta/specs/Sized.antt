-- How many components a state has.
use Rattle.std.specs.Prelude.{◌≡◌, ◌⊎◌, ℕ, List, [], ◌∷◌, length}
use Rattle.std.specs.List.{AllByRecursion}
use Rattle.rds_state.specs.Coordinates.{Coordinates, Coordinate, IsComponent}

abbrev pub IsListed : Coordinate → List Coordinate → Type 0
IsListed c [] = ⊥
IsListed c (x ∷ xs) = (x ≡ c) ⊎ IsListed c xs

-- no two are the same
abbrev pub AreDistinct : List Coordinate → Type 0
AreDistinct [] = Unit {0}
AreDistinct (x ∷ xs) = AllByRecursion (λ y. ¬ (x ≡ y)) xs × AreDistinct xs

-- so many coordinates are components: a list has each of them once, and no others
pub record HasComponents (a : Coordinates) (n : ℕ) : Type 0 where
  pub list : List Coordinate
  pub components : AllByRecursion (IsComponent a) list
  pub all : (c : Coordinate) → IsComponent a c → IsListed c list
  pub once : AreDistinct list
  pub count : length list ≡ n
