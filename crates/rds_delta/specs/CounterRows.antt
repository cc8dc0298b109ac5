-- The count rows of a certificate.
use Rattle.std.specs.Prelude.{ℕ, zero, suc, ◌<◌, List, [], ◌∷◌, ◌++◌}
use Rattle.rds_counts.specs.declared.row.Which.TheVariants.{P, N}
use Rattle.rds_counts.specs.declared.row.CountRow.{CountRow}
use Rattle.rds_counts.specs.Place.{Place}
use Rattle.rds_counts.specs.Counted.{place}
use Rattle.rds_delta.specs.declared.row.Row.{Row}
use Rattle.rds_delta.specs.declared.row.Row.TheVariants as rows

-- a row for a number above 0, and none for 0
abbrev pub number_rows : Place → ℕ → ℕ → List Row
number_rows q zero peer = []
number_rows q (suc n) peer = rows.Count q.key q.replica q.which (suc n) peer ∷ []

abbrev pub counter_rows : (Place → ℕ) → List CountRow → List Row
counter_rows peer [] = []
counter_rows peer (r ∷ rs) = number_rows (place r.key r.replica P) r.p (peer (place r.key r.replica P)) ++ (number_rows (place r.key r.replica N) r.n (peer (place r.key r.replica N)) ++ counter_rows peer rs)

abbrev pub IsNumberAbove : ℕ → ℕ → Type 0
IsNumberAbove sent peer = 0 < sent → peer < sent

-- each number above 0 is above the peer's
abbrev pub AreAbove : (Place → ℕ) → List CountRow → Type 0
AreAbove peer [] = Unit {0}
AreAbove peer (r ∷ rs) = IsNumberAbove r.p (peer (place r.key r.replica P)) × IsNumberAbove r.n (peer (place r.key r.replica N)) × AreAbove peer rs
