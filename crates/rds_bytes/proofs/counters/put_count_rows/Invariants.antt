use Rattle.std.proofs.Common.{◌≡◌, ◌++◌, take}
use Rattle.std.specs.List.{flat_map}
use Rattle.rds_bytes.specs.Spelling.{count_row_text}
use Rattle.rds_bytes.proofs.counters.put_count_rows.Given as goal

abbrev pub invariant-loop-row : goal.invariant-loop-row
invariant-loop-row l = l.out.items ≡ l.initial.out.items ++ flat_map count_row_text (take l.row-index l.rows)
