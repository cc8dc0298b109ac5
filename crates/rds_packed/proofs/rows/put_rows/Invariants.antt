use Rattle.std.proofs.Common.{◌≡◌, ◌++◌, ◌≤◌, length, drop}
use Rattle.rds_life.specs.Life.{live_rows}
use Rattle.rds_bytes.specs.Numbers.{count_of_keys}
use Rattle.rds_packed.specs.PackedTexts.{CanStepAll, numbers_rows_text, zeroth_dot}
use Rattle.rds_packed.proofs.rows.put_rows.Given as goal

-- what is still put ends as all would
abbrev pub invariant-loop-dot : goal.invariant-loop-dot
invariant-loop-dot g l =
    (l.out.items ++ numbers_rows_text l.from l.dot-iterator l.left ≡ l.initial.out.items ++ numbers_rows_text zeroth_dot (live_rows l.lives) l.numbers)
    × ((count_of_keys l.dot-iterator ≤ length l.left)
    × ((drop (count_of_keys l.dot-iterator) l.left ≡ drop (count_of_keys (live_rows l.lives)) l.numbers) × CanStepAll l.from l.dot-iterator))
