use Rattle.std.proofs.Common.{◌≡◌, ◌++◌}
use Rattle.rds_life.proofs.row_map.RowMap.copy_list.Given as goal

abbrev pub invariant-loop-dot : goal.invariant-loop-dot
invariant-loop-dot l = l.list.items ++ l.dot-iterator ≡ l.self
