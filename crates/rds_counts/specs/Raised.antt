-- A pair of numbers once one of them grew, and the row of a pair.
use Rattle.std.specs.Prelude.{ℕ, List, ◌+◌}
use Rattle.rds_counts.specs.declared.row.Which.{Which}
use Rattle.rds_counts.specs.declared.row.Which.TheVariants.{P, N}
use Rattle.rds_counts.specs.declared.row.CountRow.{CountRow}

-- the pair with the amount added to one number
abbrev pub pair_raised : ℕ × ℕ → Which → ℕ → ℕ × ℕ
pair_raised pair P by = (pair.0 + by, pair.1)
pair_raised pair N by = (pair.0, pair.1 + by)

-- the row of a key, a replica and a pair
abbrev pub row_of : List ℕ → ℕ → ℕ × ℕ → CountRow
row_of key replica pair = record { key = key; replica = replica; p = pair.0; n = pair.1 }
