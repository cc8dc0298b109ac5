-- The readers of counters in few bytes are steady.
use Rattle.std.specs.Prelude.{ℕ, List}
use Rattle.rds_counts.specs.declared.row.CountRow.{CountRow}
use Rattle.rds_counts.specs.Counted.{counts_of}
use Rattle.rds_bytes.specs.Reading.{Reader, count_row_by}
use Rattle.rds_bytes.specs.Steady.{IsSteady}
use Rattle.rds_bytes.specs.SteadyLaws.{made_steady, then_steady, pair_steady, when_steady, list_steady}
use Rattle.rds_bytes.specs.SteadyParts.{packed_steady, keyed_place_steady}
use Rattle.rds_packed.specs.PackedSteady.{packed_u32_steady}
use Rattle.rds_packed.specs.CountTexts.{packed_counts_at, packed_count_row_at, packed_count_rows_at, packed_counters_at}

packed_counts_steady : IsSteady packed_counts_at
unfolding packed_counts_at
packed_counts_steady = then_steady _ _ (when_steady _ _ packed_steady) (λ p. when_steady _ _ packed_steady)

-- for any steady reader of their keys
module _ (key : Reader (List ℕ)) (key_is : IsSteady key) where
  pub packed_count_row_steady : (replicas : ℕ) (before : List CountRow) → IsSteady (packed_count_row_at key replicas before)
  unfolding packed_count_row_at
  packed_count_row_steady replicas before =
      made_steady count_row_by _ (pair_steady _ _ (keyed_place_steady key key_is replicas before) packed_counts_steady)

  packed_count_rows_steady : (replicas : ℕ) → IsSteady (packed_count_rows_at key replicas)
  unfolding packed_count_rows_at
  packed_count_rows_steady replicas = list_steady _ _ packed_u32_steady (packed_count_row_steady replicas)

  pub packed_counters_steady : (replicas : ℕ) → IsSteady (packed_counters_at key replicas)
  unfolding packed_counters_at
  packed_counters_steady replicas = made_steady counts_of _ (packed_count_rows_steady replicas)
