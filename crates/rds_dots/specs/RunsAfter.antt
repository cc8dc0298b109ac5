-- Going over runs by the dot where the last one ended.
use Rattle.std.specs.Prelude.{List, Option, filter}
use Rattle.rds_dots.specs.declared.dot.Dot.{Dot}
use Rattle.rds_dots.specs.declared.dot.Run.{Run}
use Rattle.rds_dots.specs.Dots.{last_of, comes_after}

-- the runs whose last dots come after the given one
abbrev pub runs_left : Option Dot → List Run → List Run
runs_left after rs = filter (λ r. comes_after after (last_of r)) rs
