-- The two parts that are left of a run that another cuts.
use Rattle.std.specs.Prelude.{◌+◌, ◌-◌, nat_lt, if◌then◌else◌, List, [], ◌∷◌}
use Rattle.rds_dots.specs.declared.dot.Run.{Run}
use Rattle.rds_dots.specs.Runs.{start, stop}

-- what the run has before the cut begins, if anything
abbrev pub before_cut : Run → Run → List Run
before_cut r cut =
    if nat_lt (stop r) (start cut) then r ∷ [] else (if nat_lt (start r) (start cut) then record { replica = r.replica; lo = r.lo; hi = cut.lo - 1 } ∷ [] else [])

-- what the run has past the cut's end, where it goes on past it
abbrev pub after_cut : Run → Run → Run
after_cut r cut = record { replica = r.replica; lo = cut.hi + 1; hi = r.hi }
