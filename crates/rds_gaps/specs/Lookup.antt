-- What a look-up among runs finds: where those begin that end after a dot, and the greatest number of a replica.
use Rattle.std.specs.Prelude.{◌≡◌, ℕ, ◌<◌, ◌≤◌, true, false, List, length, slice_index_or, Option}
use Rattle.rds_dots.specs.declared.dot.Dot.{Dot}
use Rattle.rds_dots.specs.declared.dot.Run.{Run}
use Rattle.rds_dots.specs.Dots.{last_of, comes_after}
use Rattle.rds_dots.specs.Runs.{runs_cover}

-- the runs before the place don't end after the dot, and the others do
pub record IsParted (after : Option Dot) (rs : List Run) (i : ℕ) : Type 0 where
  pub below : (k : ℕ) (d : Run) → k < i → comes_after after (last_of (slice_index_or rs k d)) ≡ false
  pub from : (k : ℕ) (d : Run) → i ≤ k → k < length rs → comes_after after (last_of (slice_index_or rs k d)) ≡ true

-- the greatest number of the replica, 0 where there is none
pub record IsTopOf (rs : List Run) (replica top : ℕ) : Type 0 where
  pub at_most : (n : ℕ) → let d : Dot = record { replica = replica; seq = n } in runs_cover rs d ≡ true → n ≤ top
  pub there : 1 ≤ top → let d : Dot = record { replica = replica; seq = top } in runs_cover rs d ≡ true
