use Rattle.std.proofs.Common.{◌≡◌, ◌+◌, ◌≤◌, ◌++◌, vec_len, vec_capacity}
use Rattle.std.specs.Vec.Iter.{into_iter_items, into_iter_len}
use Rattle.rds_life.proofs.joining.move_all.Given as goal

abbrev pub invariant-moving : goal.invariant-moving
invariant-moving l = record {
  items : l.rows.items ++ into_iter_items l.theirs ≡ l.fn.rows.items ++ into_iter_items l.fn.coming;
  room : vec_len l.rows + into_iter_len l.theirs ≤ vec_capacity l.rows;
}

abbrev pub decreases-moving : goal.decreases-moving
decreases-moving l = into_iter_len l.theirs
