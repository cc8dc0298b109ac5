use Rattle.std.proofs.Common.{◌≡◌, ℕ, ◌+◌, ◌-◌, ◌<◌, ◌≤◌, true, length}
use Rattle.rds_dots.specs.Lacking.{dot_of}
use Rattle.rds_dots.specs.Listed.{lists}
use Rattle.rds_life.specs.Life.{keys}
use Rattle.rds_delta.proofs.killed.in_line.Given as goal

-- so many of the next dots have rows
abbrev pub invariant-searching : goal.invariant-searching
invariant-searching l = record {
  order : l.low ≤ l.high;
  within : l.high ≤ length l.rows;
  most : l.run.lo + l.high ≤ l.run.hi;
  live : (n : ℕ) → l.run.lo < n → n ≤ l.run.lo + l.low → lists (keys l.rows) (dot_of l.run.replica n) ≡ true;
}

abbrev pub decreases-searching : goal.decreases-searching
decreases-searching l = l.high - l.low
