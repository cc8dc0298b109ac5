-- Where the row of a key and a replica stands.
use Rattle.std.specs.Prelude.{ℕ, List, Result, length}
use Rattle.std.specs.List.Sorted.{IsBinarySearchResult, IsSearchInRange}
use Rattle.std.specs.Ordering.{nat_cmp, ordering_then}
use Rattle.std.specs.Cmp.Lexicographic.{slice_cmp}
use Rattle.std.specs.declared.cmp.Ordering.{Ordering}
use Rattle.rds_counts.specs.declared.row.CountRow.{CountRow}

-- whether a row comes before the place, is there, or comes after it
abbrev pub spot_cmp : List ℕ → ℕ → CountRow → Ordering
spot_cmp key replica r = ordering_then (slice_cmp nat_cmp r.key key) (nat_cmp r.replica replica)

-- a search found the row at this place, or says where it would stand
pub record IsSpot (key : List ℕ) (replica : ℕ) (rows : List CountRow) (found : Result ℕ ℕ) : Type 0 where
  pub bound : IsSearchInRange found (length rows)
  pub position : IsBinarySearchResult (spot_cmp key replica) rows found
