use Rattle.std.proofs.Common.{◌≡◌, ◌+◌, ◌-◌, ◌≤◌, ◌++◌, vec_len, vec_capacity}
use Rattle.rds_dots.specs.Listed.{dots_from}
use Rattle.rds_dots.proofs.lists.push_run.Given as goal

-- the dots so far are there, and for the others there is room
abbrev pub invariant-loop-seq : goal.invariant-loop-seq
invariant-loop-seq l = record {
  items : l.dots.items ≡ l.fn.dots.items ++ dots_from l.run.replica l.run.lo (l.seq - l.run.lo);
  room : vec_len l.dots + (l.run.hi + 1 - l.seq) ≤ vec_capacity l.dots;
}
