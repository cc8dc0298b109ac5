-- The ranges in which the rows of a certificate lie.
use Rattle.std.specs.Prelude.{◌≡◌, ℕ, ◌<◌, ◌≤◌, true, List}
use Rattle.std.specs.List.{AllByRecursion}
use Rattle.rds_dots.specs.Dots.{is_dot, IsRun}
use Rattle.rds_counts.specs.declared.row.TheConstants.{MAX_COUNT}
use Rattle.rds_delta.specs.declared.row.Row.{Row}
use Rattle.rds_delta.specs.declared.row.Row.TheVariants as rows

-- of a replica below this number: a dot, a run of dots that aren't dead there, or a number that is above the one there
abbrev pub IsRowWithin : ℕ → Row → Type 0
IsRowWithin replicas (rows.Live d) = (d.replica < replicas) × (is_dot d ≡ true)
IsRowWithin replicas (rows.Dead r peer) = (r.replica < replicas) × IsRun r × (peer ≤ 1)
IsRowWithin replicas (rows.Count key replica which sent peer) = (replica < replicas) × (peer < sent) × (sent ≤ MAX_COUNT)

abbrev pub AreRowsWithin : ℕ → List Row → Type 0
AreRowsWithin replicas rs = AllByRecursion (IsRowWithin replicas) rs
