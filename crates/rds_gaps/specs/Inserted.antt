-- A run put in its place among runs in order, and made one with those that it meets or touches.
use Rattle.std.specs.Prelude.{◌≡◌, ℕ, ◌+◌, ◌<◌, ◌≤◌, nat_lt, if◌then◌else◌, List, [], ◌∷◌, length, drop, slice_index_or}
use Rattle.rds_dots.specs.declared.dot.Run.{Run}
use Rattle.rds_dots.specs.Runs.{start, stop}

-- the least run around both
abbrev pub hull : Run → Run → Run
hull r z = record { replica = z.replica; lo = if nat_lt r.lo z.lo then r.lo else z.lo; hi = if nat_lt z.hi r.hi then r.hi else z.hi }

-- the run put among runs
abbrev pub insertion : List Run → Run → List Run
insertion [] z = z ∷ []
insertion (r ∷ rs) z =
    if nat_lt (stop r + 1) (start z) then r ∷ insertion rs z else (if nat_lt (stop z + 1) (start r) then z ∷ r ∷ rs else insertion rs (hull r z))

-- no run from a place on ends so early that dots lie between it and the run
abbrev pub ReachesRun : List Run → ℕ → Run → Type 0
ReachesRun rs from z = (k : ℕ) (d : Run) → from ≤ k → k < length rs → start z ≤ stop (slice_index_or rs k d) + 1

-- the run made one with the runs from one place up to another, where those begin that are left
pub record IsCoalesced (rs : List Run) (from : ℕ) (z : Run) (to : ℕ) (whole : Run) : Type 0 where
  pub in_order : from ≤ to
  pub within : to ≤ length rs
  pub same : insertion (drop from rs) z ≡ whole ∷ drop to rs
  pub alone : to ≡ from → whole ≡ z
