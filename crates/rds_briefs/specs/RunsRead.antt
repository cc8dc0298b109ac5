-- What reading the runs of a brief makes.
use Rattle.std.specs.Prelude.{◌≡◌, ◌&&◌, List}
use Rattle.std.specs.FinSet as set
use Rattle.rds_dots.specs.declared.dot.Dot.{Dot}
use Rattle.rds_dots.specs.declared.dot.Run.{Run}
use Rattle.rds_dots.specs.Dots.{Dots}
use Rattle.rds_dots.specs.Runs.{runs_cover}

-- the dots of the runs were seen, and those of them that a set has are live
pub record RunsAreRead (rs : List Run) (lives seen live : Dots) : Type 0 where
  pub each_seen : (d : Dot) → set.contains seen d ≡ runs_cover rs d
  pub each_live : (d : Dot) → set.contains live d ≡ (runs_cover rs d && set.contains lives d)
