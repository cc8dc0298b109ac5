use Rattle.std.proofs.Common.{◌≡◌, ◌+◌, ◌-◌, ◌≤◌, false, List, ◌∷◌, take, get_or, length}
use Rattle.rds_dots.specs.declared.dot.Dot.{Dot}
use Rattle.rds_dots.specs.declared.dot.Run.{Run}
use Rattle.rds_dots.specs.Dots.{first_of, last_of}
use Rattle.rds_dots.specs.Drawn.{leads_by, put_dots}
use Rattle.rds_dots.proofs.lists.drawn_back.Given as goal

-- the run is drawn back through the dots from high on, and that before low isn't in line
abbrev pub invariant-searching : goal.invariant-searching
invariant-searching l = record {
  order : l.low ≤ l.high;
  within : l.high ≤ length l.before;
  last : last_of l.run ≡ last_of l.fn.run;
  far : l.run.lo + (length l.before - l.high) ≡ l.fn.run.lo;
  whole : (rs : List Run) → put_dots (take l.high l.before) (l.run ∷ rs) ≡ put_dots l.before (l.fn.run ∷ rs);
  apart : 1 ≤ l.low → (d : Dot) → leads_by (length l.before - (l.low - 1)) (get_or l.before (l.low - 1) d) (first_of l.fn.run) ≡ false;
}

abbrev pub decreases-searching : goal.decreases-searching
decreases-searching l = l.high - l.low
