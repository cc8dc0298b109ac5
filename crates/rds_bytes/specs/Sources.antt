-- What a source of keys is after it gave those of rows, each in turn.
use Rattle.std.specs.Prelude.{ℕ, List, fold}
use Rattle.rds_names.specs.declared.entry.Entry.{Entry}
use Rattle.rds_dots.specs.declared.dot.Dot.{Dot}
use Rattle.rds_counts.specs.declared.row.CountRow.{CountRow}

module _ {K : Type 0} (after : K → List ℕ → K) where
  -- live rows, each path from its first key to its last
  abbrev pub after_rows : K → List (Dot × Entry) → K
  after_rows k rows = fold (λ k row. fold after k row.1.path) k rows

  abbrev pub after_counts : K → List CountRow → K
  after_counts k rows = fold (λ k row. after k row.key) k rows
