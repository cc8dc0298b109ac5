-- The rows of two counters, drawn into one.
use Rattle.std.specs.Prelude.{max, List, [], ◌∷◌}
use Rattle.std.specs.FinMap.Entries.{by_order}
use Rattle.rds_counts.specs.declared.row.CountRow.{CountRow}
use Rattle.rds_counts.specs.Counted.{row_cmp}

-- a row with the greater of each number
abbrev pub greater : CountRow → CountRow → CountRow
greater x y = record { key = x.key; replica = x.replica; p = max x.p y.p; n = max x.n y.n }

-- a row and what follows it, drawn into rows
abbrev pub drawn_onto : CountRow → (List CountRow → List CountRow) → List CountRow → List CountRow
drawn_onto x rest [] = x ∷ rest []
drawn_onto x rest (y ∷ ys) = by_order (row_cmp x y) (x ∷ rest (y ∷ ys)) (greater x y ∷ rest ys) (y ∷ drawn_onto x rest ys)

-- both lists of rows in one, in order
abbrev pub greatest_rows : List CountRow → List CountRow → List CountRow
greatest_rows [] ys = ys
greatest_rows (x ∷ xs) ys = drawn_onto x (greatest_rows xs) ys
