-- How a set of dots in few bytes is read. Each part is judged as soon as it is there.
use Rattle.std.specs.Prelude.{ℕ, ◌+◌, nat_le, List, Option}
use Rattle.rds_dots.specs.declared.dot.TheConstants.{MAX_SEQ}
use Rattle.rds_dots.specs.Dots.{Dots}
use Rattle.rds_bytes.specs.declared.dots.Gap.{Gap}
use Rattle.rds_bytes.specs.declared.dots.DotRow.{DotRow}
use Rattle.rds_bytes.specs.declared.dot_rows.RowHead.{RowHead}
use Rattle.rds_bytes.specs.Packed.{packed_at}
use Rattle.rds_bytes.specs.Reading.{Reader, then_at, pair_at, made_at, when_at, list_at, byte_at, is_between, is_end, is_next_replica, last, least_lo, least_replica, gap_by, row_by, row_head_by}
use Rattle.rds_bytes.specs.RowDots.{dots_of_rows}
use Rattle.rds_packed.specs.PackedReading.{packed_u32_at, given_at}
use Rattle.rds_packed.specs.SeenTexts.{gap_end}

-- a number so far past another
abbrev pub further_at : ℕ → Reader ℕ
further_at from = made_at (λ n. from + n) packed_at

-- the gap that comes next below a top
unfoldable pub packed_gap_at : ℕ → Option Gap → Reader Gap
packed_gap_at top before =
    made_at gap_by
    (then_at (when_at (nat_le (least_lo before)) (further_at (gap_end before))) (λ lo. when_at (is_end top lo) (further_at lo)))

-- so many gaps
abbrev pub packed_gaps_at : ℕ → ℕ → Reader (List Gap)
packed_gaps_at top count = list_at (given_at count) (λ before. packed_gap_at top (last before))

abbrev pub packed_top_at : Reader ℕ
packed_top_at = when_at (is_between 1 MAX_SEQ) packed_at

-- what a row begins with, of one of so many replicas, from a least one on
unfoldable pub packed_head_at : ℕ → ℕ → Reader RowHead
packed_head_at replicas least =
    made_at row_head_by (pair_at (when_at (is_next_replica replicas least) byte_at) (pair_at packed_top_at packed_u32_at))

unfoldable pub packed_dot_row_at : ℕ → List DotRow → Reader DotRow
packed_dot_row_at replicas before =
    made_at row_by (then_at (packed_head_at replicas (least_replica (last before))) (λ h. packed_gaps_at h.top h.gaps))

unfoldable pub packed_dot_rows_at : ℕ → Reader (List DotRow)
packed_dot_rows_at replicas = list_at packed_u32_at (packed_dot_row_at replicas)

-- a set of dots, by its rows
unfoldable pub packed_dots_at : ℕ → Reader Dots
packed_dots_at replicas = made_at dots_of_rows (packed_dot_rows_at replicas)
