-- Rows of counters that are read after lives by the numbers of one table.
use Rattle.std.specs.Prelude.{ℕ, List, refl}
use Rattle.std.specs.Coded.{Coded, code_by, coded×, coded_ℕ, coded_list}
use Rattle.rds_counts.specs.declared.row.CountRow.{CountRow}
use Rattle.rds_feeds.specs.Numbered.{TabledLives, coded_tabled_lives}

-- the lives and their table, how many replicas there are, and the rows
abbrev pub CountsValue : Type 0
CountsValue = (TabledLives × ℕ) × List CountRow

abbrev RowParts : Type 0
RowParts = (List ℕ × ℕ) × (ℕ × ℕ)

abbrev coded_row : Coded CountRow
coded_row = code_by RowParts (coded× (coded× (coded_list coded_ℕ) coded_ℕ) (coded× coded_ℕ coded_ℕ)) (λ r. ((r.key, r.replica), (r.p, r.n)))
    (λ x. record { key = x.0.0; replica = x.0.1; p = x.1.0; n = x.1.1 }) (λ _. refl)

abbrev pub coded_counts_value : Coded CountsValue
coded_counts_value = coded× (coded× coded_tabled_lives coded_ℕ) (coded_list coded_row)
