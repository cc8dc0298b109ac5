use Rattle.std.proofs.Common.{◌≡◌, ◌++◌, ◌≤◌, length, drop}
use Rattle.rds_life.specs.Life.{live_rows}
use Rattle.rds_bytes.specs.Numbers.{numbered_rows_text, count_of_keys}
use Rattle.rds_bytes.proofs.numbered.put_rows.Given as goal

-- what is still put ends as all would
abbrev pub invariant-loop-dot : goal.invariant-loop-dot
invariant-loop-dot g l =
    (l.out.items ++ numbered_rows_text l.dot-iterator l.left ≡ l.initial.out.items ++ numbered_rows_text (live_rows l.lives) l.numbers)
    × ((count_of_keys l.dot-iterator ≤ length l.left) × (drop (count_of_keys l.dot-iterator) l.left ≡ drop (count_of_keys (live_rows l.lives)) l.numbers))
