use Rattle.std.proofs.Common.{◌≡◌, ◌+◌, ◌*◌, ◌≤◌, ◌<◌, ◌^◌, length}
use Rattle.std.specs.List.{flat_map, AllByRecursion}
use Rattle.rds_life.specs.Life.{live_rows}
use Rattle.rds_bytes.specs.Values.{IsLiveRow}
use Rattle.rds_bytes.specs.Spelling.{live_row_text}
use Rattle.rds_bytes.proofs.live_rows.live_rows_length.Given as goal

abbrev pub invariant-loop-dot : goal.invariant-loop-dot
invariant-loop-dot g l =
    let all = live_rows l.lives in
    (l.total + length (flat_map live_row_text l.dot-iterator) ≡ length (flat_map live_row_text all))
    × ((l.total + 2048 * length l.dot-iterator ≤ 2048 * length all) × ((length all < 2 ^ 64) × (AllByRecursion IsLiveRow l.dot-iterator → AllByRecursion IsLiveRow all)))
