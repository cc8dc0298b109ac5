use Rattle.std.proofs.Common.{◌≡◌, ◌+◌, ◌-◌, take, sum_by}
use Rattle.rds_gaps.proofs.counting.count.Given as goal

abbrev pub invariant-loop-run : goal.invariant-loop-run
invariant-loop-run l = l.count ≡ sum_by (λ r. r.hi + 1 - r.lo) (take l.run-index l.runs)
