-- What a counter stands at.
use Rattle.std.specs.Prelude.{ℕ, ℤ, pos, ◌-ℤ◌, ◌+◌, List, [], ◌∷◌, cond}
use Rattle.std.specs.List.{sum_by, range_with_len}
use Rattle.std.specs.Str.{bytes_eq}
use Rattle.rds_counts.specs.declared.row.Which.{Which}
use Rattle.rds_counts.specs.declared.row.Which.TheVariants.{P, N}
use Rattle.rds_counts.specs.declared.row.CountRow.{CountRow}
use Rattle.rds_counts.specs.Counted.{Counted, number, number_in_pair, place}
use Rattle.rds_counts.specs.Place.{Place}

-- the sum of a key's numbers over all replicas, 0 to 255
unfoldable pub total_by : (Place → ℕ) → List ℕ → Which → ℕ
total_by number key which = sum_by (λ replica. number (place key replica which)) (range_with_len 0 256)

-- all increments less all decrements
abbrev pub value_by : (Place → ℕ) → List ℕ → ℤ
value_by number key = pos (total_by number key P) -ℤ pos (total_by number key N)

abbrev pub total : Counted → List ℕ → Which → ℕ
total m = total_by (number m)

abbrev pub value_of : Counted → List ℕ → ℤ
value_of m = value_by (number m)

-- the sum over the first rows, as far as they have the key
abbrev pub first_total : Which → List ℕ → List CountRow → ℕ
first_total which key [] = 0
first_total which key (r ∷ rows) = cond (bytes_eq r.key key) (number_in_pair which (r.p, r.n) + first_total which key rows) 0
