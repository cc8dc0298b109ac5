use Rattle.std.proofs.Common.{◌≡◌, ◌+◌, ◌*◌, ◌≤◌, ◌<◌, ◌^◌, length}
use Rattle.rds_life.specs.Life.{live_rows}
use Rattle.rds_bytes.specs.Numbers.{count_of_keys}
use Rattle.rds_packed.specs.PackedTexts.{CanStepAll, numbers_rows_text, zeroth_dot}
use Rattle.rds_packed.proofs.rows.rows_length.Given as goal

-- what is still measured ends as all would
abbrev pub invariant-loop-dot : goal.invariant-loop-dot
invariant-loop-dot g l =
    (l.total + length (numbers_rows_text l.from l.dot-iterator l.left) ≡ length (numbers_rows_text zeroth_dot (live_rows l.lives) l.numbers))
    × ((l.total + 2048 * length l.dot-iterator ≤ 2048 * length (live_rows l.lives))
    × ((length (live_rows l.lives) < 2 ^ 64) × ((count_of_keys l.dot-iterator ≤ length l.left) × CanStepAll l.from l.dot-iterator)))
