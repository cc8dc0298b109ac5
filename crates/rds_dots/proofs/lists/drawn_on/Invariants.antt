use Rattle.std.proofs.Common.{◌≡◌, ◌+◌, ◌-◌, ◌≤◌, ◌<◌, false, drop, get_or, length}
use Rattle.rds_dots.specs.declared.dot.Dot.{Dot}
use Rattle.rds_dots.specs.Dots.{first_of, last_of}
use Rattle.rds_dots.specs.Drawn.{put_run, leads_by}
use Rattle.rds_dots.specs.Runs.{runs_of_dots}
use Rattle.rds_dots.proofs.lists.drawn_on.Given as goal

-- the run is drawn on through the dots before low, and that at high isn't in line
abbrev pub invariant-searching : goal.invariant-searching
invariant-searching l = record {
  order : l.low ≤ l.high;
  within : l.high ≤ length l.rest;
  first : first_of l.run ≡ first_of l.fn.run;
  last : l.run.hi ≡ l.fn.run.hi + l.low;
  whole : put_run l.run (runs_of_dots (drop l.low l.rest)) ≡ put_run l.fn.run (runs_of_dots l.rest);
  apart : l.high < length l.rest → (d : Dot) → leads_by (l.high + 1) (last_of l.fn.run) (get_or l.rest l.high d) ≡ false;
}

abbrev pub decreases-searching : goal.decreases-searching
decreases-searching l = l.high - l.low
