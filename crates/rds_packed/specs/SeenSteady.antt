-- The readers of a set of dots in few bytes are steady.
use Rattle.std.proofs.Common.{ℕ, List, Option}
use Rattle.rds_bytes.specs.declared.dots.Gap.{Gap}
use Rattle.rds_bytes.specs.declared.dots.DotRow.{DotRow}
use Rattle.rds_bytes.specs.Reading.{gap_by, row_by, row_head_by, last}
use Rattle.rds_bytes.specs.RowDots.{dots_of_rows}
use Rattle.rds_bytes.specs.Steady.{IsSteady}
use Rattle.rds_bytes.specs.SteadyLaws.{made_steady, then_steady, pair_steady, when_steady, given_steady, list_steady, byte_steady}
use Rattle.rds_bytes.specs.SteadyParts.{packed_steady}
use Rattle.rds_packed.specs.PackedReading.{given_at}
use Rattle.rds_packed.specs.PackedSteady.{packed_u32_steady}
use Rattle.rds_packed.specs.SeenReading.{further_at, packed_gap_at, packed_gaps_at, packed_head_at, packed_dot_row_at, packed_dot_rows_at, packed_dots_at}

further_steady : (from : ℕ) → IsSteady (further_at from)
further_steady from = made_steady _ _ packed_steady

pub packed_gap_steady : (top : ℕ) (before : Option Gap) → IsSteady (packed_gap_at top before)
unfolding packed_gap_at
packed_gap_steady top before =
    made_steady gap_by _ (then_steady _ _ (when_steady _ _ (further_steady _)) (λ lo. when_steady _ _ (further_steady lo)))

packed_gaps_steady : (top count : ℕ) → IsSteady (packed_gaps_at top count)
packed_gaps_steady top count = list_steady (given_at count) _ (given_steady count) (λ before. packed_gap_steady top (last before))

pub packed_head_steady : (replicas least : ℕ) → IsSteady (packed_head_at replicas least)
unfolding packed_head_at
packed_head_steady replicas least =
    made_steady row_head_by _ (pair_steady _ _ (when_steady _ _ byte_steady) (pair_steady _ _ (when_steady _ _ packed_steady) packed_u32_steady))

packed_dot_row_steady : (replicas : ℕ) (before : List DotRow) → IsSteady (packed_dot_row_at replicas before)
unfolding packed_dot_row_at
packed_dot_row_steady replicas before =
    made_steady row_by _ (then_steady _ _ (packed_head_steady replicas _) (λ h. packed_gaps_steady h.top h.gaps))

packed_dot_rows_steady : (replicas : ℕ) → IsSteady (packed_dot_rows_at replicas)
unfolding packed_dot_rows_at
packed_dot_rows_steady replicas = list_steady _ _ packed_u32_steady (packed_dot_row_steady replicas)

pub packed_dots_steady : (replicas : ℕ) → IsSteady (packed_dots_at replicas)
unfolding packed_dots_at
packed_dots_steady replicas = made_steady dots_of_rows _ (packed_dot_rows_steady replicas)
