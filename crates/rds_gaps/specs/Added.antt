-- A run put behind runs in order, and joined to the last of them where no dots lie between.
use Rattle.std.specs.Prelude.{ℕ, ◌+◌, Bool, true, nat_lt, nat_le, if◌then◌else◌, List, [], ◌∷◌}
use Rattle.rds_dots.specs.declared.dot.Run.{Run}
use Rattle.rds_dots.specs.Runs.{start, stop}

-- the first of two runs, to the end of the one that ends later
abbrev pub stretch_of : Run → Run → Run
stretch_of r s = if nat_lt r.hi s.hi then record { replica = r.replica; lo = r.lo; hi = s.hi } else r

-- a run put behind a first run and those that follow it
abbrev pub added_behind : Run → List Run → Run → List Run
added_behind r [] s = if nat_lt (stop r + 1) (start s) then (r ∷ s ∷ []) else stretch_of r s ∷ []
added_behind r (q ∷ rs) s = r ∷ added_behind q rs s

-- a run put behind runs
abbrev pub addition : List Run → Run → List Run
addition [] s = s ∷ []
addition (r ∷ rs) s = added_behind r rs s

-- where the last of a first run and those that follow it begins
abbrev pub last_start_behind : Run → List Run → ℕ
last_start_behind r [] = start r
last_start_behind r (q ∷ rs) = last_start_behind q rs

-- where the last of the runs begins, 0 where there is none
abbrev pub last_start : List Run → ℕ
last_start [] = 0
last_start (r ∷ rs) = last_start_behind r rs

-- whether the first of the runs begins at a place or past it
abbrev pub begins_from : ℕ → List Run → Bool
begins_from n [] = true
begins_from n (r ∷ rs) = nat_le n (start r)
