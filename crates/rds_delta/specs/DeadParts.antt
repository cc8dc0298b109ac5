-- How far the dots of a run are alike dead.
use Rattle.std.specs.Prelude.{◌≡◌, ℕ, ◌≤◌, Bool}
use Rattle.std.specs.FinMap as map
use Rattle.rds_dots.specs.declared.dot.Run.{Run}
use Rattle.rds_dots.specs.Lacking.{dot_of}
use Rattle.rds_life.specs.Life.{Lived, is_dead}

-- from the first dot of the run up to a number in it all dots are dead, or none is
pub record IsDeadTo (v : Lived) (r : Run) (has : Bool) (until : ℕ) : Type 0 where
  pub from : r.lo ≤ until
  pub within : until ≤ r.hi
  pub alike : (n : ℕ) → r.lo ≤ n → n ≤ until → is_dead (map.get v (dot_of r.replica n)) ≡ has
