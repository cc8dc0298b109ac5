-- The rows of counters, of which there is one list.
use Rattle.std.specs.Prelude.{ℕ, ◌+◌, cond, List, [], ◌∷◌}
use Rattle.std.specs.Ordering.{is_eq}
use Rattle.std.specs.FinMap as map
use Rattle.rds_counts.specs.declared.row.CountRow.{CountRow}
use Rattle.rds_counts.specs.Place.{Place}
use Rattle.rds_counts.specs.Counted.{Above, Counted, number_in_pair, row_cmp}

-- a row with this number, and 0 for the other
abbrev pub row_at : Place → ℕ → CountRow
row_at q n = record { key = q.key; replica = q.replica; p = number_in_pair q.which (n, 0); n = number_in_pair q.which (0, n) }

-- both rows' numbers
abbrev pub both : CountRow → CountRow → CountRow
both r s = record { key = r.key; replica = r.replica; p = r.p + s.p; n = r.n + s.n }

-- one more row in front, in one with the next where they are of one key and replica
abbrev pub with_row : CountRow → List CountRow → List CountRow
with_row r [] = r ∷ []
with_row r (s ∷ rows) = cond (is_eq (row_cmp r s)) (both r s ∷ rows) (r ∷ s ∷ rows)

-- the rows of entries in order
abbrev pub rows_of : List (Place × Above) → List CountRow
rows_of [] = []
rows_of (e ∷ es) = with_row (row_at e.0 (e.1.before + 1)) (rows_of es)

-- the rows of counters, by key, then replica
abbrev pub count_rows : Counted → List CountRow
count_rows m = rows_of (map.entries m)
