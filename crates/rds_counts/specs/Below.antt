-- Rows whose replicas are below a number.
use Rattle.std.specs.Prelude.{ℕ, Bool, ◌&&◌, nat_lt, true, List, [], ◌∷◌}
use Rattle.rds_counts.specs.declared.row.CountRow.{CountRow}

abbrev pub rows_below : ℕ → List CountRow → Bool
rows_below replicas [] = true
rows_below replicas (r ∷ rs) = nat_lt r.replica replicas && rows_below replicas rs
