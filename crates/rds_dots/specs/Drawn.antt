-- Runs that dots lead up to and go on from.
use Rattle.std.specs.Prelude.{ℕ, ◌+◌, Bool, ◌&&◌, ◌==◌, List, [], ◌∷◌, if◌then◌else◌}
use Rattle.rds_dots.specs.declared.dot.Dot.{Dot}
use Rattle.rds_dots.specs.declared.dot.Run.{Run}
use Rattle.rds_dots.specs.Dots.{first_of, last_of, leads_to}
use Rattle.rds_dots.specs.Runs.{put_dot}

-- whether the second dot is so many numbers past the first one of its replica
abbrev pub leads_by : ℕ → Dot → Dot → Bool
leads_by steps d e = (d.replica == e.replica) && (d.seq + steps == e.seq)

-- a run, and runs after it, the first of which may go on where it ends
abbrev pub put_run : Run → List Run → List Run
put_run r [] = r ∷ []
put_run r (s ∷ rs) = if leads_to (last_of r) (first_of s) then record { replica = r.replica; lo = r.lo; hi = s.hi } ∷ rs else (r ∷ s ∷ rs)

-- each of the dots, the last first, put in front of the runs
abbrev pub put_dots : List Dot → List Run → List Run
put_dots [] rs = rs
put_dots (d ∷ ds) rs = put_dot d (put_dots ds rs)
