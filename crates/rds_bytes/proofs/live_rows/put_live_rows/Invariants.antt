use Rattle.std.proofs.Common.{◌≡◌, ◌++◌}
use Rattle.std.specs.List.{flat_map}
use Rattle.rds_life.specs.Life.{live_rows}
use Rattle.rds_bytes.specs.Spelling.{live_row_text}
use Rattle.rds_bytes.proofs.live_rows.put_live_rows.Given as goal

abbrev pub invariant-loop-dot : goal.invariant-loop-dot
invariant-loop-dot g l = l.out.items ++ flat_map live_row_text l.dot-iterator ≡ l.initial.out.items ++ flat_map live_row_text (live_rows l.lives)
