use Rattle.std.proofs.Common.{◌≡◌, ◌+◌, ◌≤◌, ◌++◌, length, vec_len, vec_capacity}
use Rattle.rds_life.proofs.row_map.RowMap.of.Given as goal

-- what was moved stands behind what wasn't, and has room there
abbrev pub invariant-moving : goal.invariant-moving
invariant-moving l = record {
  all : l.list.items ++ l.rows.entries ≡ l.fn.list.items;
  room : vec_len l.list + length l.rows.entries ≤ vec_capacity l.list;
}

abbrev pub decreases-moving : goal.decreases-moving
decreases-moving l = vec_len l.list
