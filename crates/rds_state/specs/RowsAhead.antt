-- What is ahead, said of rows.
use Rattle.std.specs.Prelude.{ℕ, ◌==◌, nat_lt, cond, List, [], ◌∷◌, Option, Some, None}
use Rattle.rds_names.specs.declared.fault.Own.{Own}
use Rattle.rds_names.specs.declared.fault.Own.TheVariants.{Plus, Minus}
use Rattle.rds_counts.specs.declared.row.Which.TheVariants.{P, N}
use Rattle.rds_counts.specs.declared.row.CountRow.{CountRow}
use Rattle.rds_counts.specs.Place.{Place}
use Rattle.rds_counts.specs.Counted.{place}

-- the first number of the row that is above what is here
abbrev pub row_ahead : (Place → ℕ) → CountRow → Option Own → Option Own
row_ahead here r later = cond (nat_lt (here (place r.key r.replica P)) r.p) (Some (Plus r.p)) (cond (nat_lt (here (place r.key r.replica N)) r.n) (Some (Minus r.n)) later)

abbrev pub rows_ahead : (Place → ℕ) → ℕ → List CountRow → Option Own
rows_ahead here own [] = None
rows_ahead here own (r ∷ rs) = cond (r.replica == own) (row_ahead here r (rows_ahead here own rs)) (rows_ahead here own rs)
