-- Unions and differences of maximal runs, place by place.
use Rattle.std.specs.Prelude.{◌≡◌, ℕ, true, ◌&&◌, ◌||◌, not, List}
use Rattle.rds_dots.specs.declared.dot.Run.{Run}
use Rattle.rds_dots.specs.Runs.{are_maximal}
use Rattle.rds_dots.specs.RunFacts.{has}

-- maximal runs through the places of either list
pub record IsUnion (left right runs : List Run) : Type 0 where
  pub maximal : are_maximal runs ≡ true
  pub same : (n : ℕ) → has runs n ≡ (has left n || has right n)

-- maximal runs through the places of the first list and not the second
pub record IsDifference (left right runs : List Run) : Type 0 where
  pub maximal : are_maximal runs ≡ true
  pub same : (n : ℕ) → has runs n ≡ (has left n && not (has right n))
