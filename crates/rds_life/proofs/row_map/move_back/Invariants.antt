use Rattle.std.proofs.Common.{◌≡◌, ◌+◌, ◌≤◌, ◌++◌, length, vec_len, vec_capacity}
use Rattle.rds_life.proofs.row_map.move_back.Given as goal

abbrev pub invariant-moving : goal.invariant-moving
invariant-moving l = record {
  all : l.list.items ++ l.rows.entries ≡ l.fn.list.items ++ l.fn.rows.entries;
  room : vec_len l.list + length l.rows.entries ≤ vec_capacity l.list;
}

abbrev pub decreases-moving : goal.decreases-moving
decreases-moving l = length l.rows.entries
