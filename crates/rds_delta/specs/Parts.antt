-- How far a set of dots goes on alike, and its first part after a dot.
use Rattle.std.specs.Prelude.{◌≡◌, ℕ, ◌+◌, ◌<◌, ◌≤◌, Bool, true, false, not, ◌&&◌, ◌==◌, nat_le, cond, Option, Some}
use Rattle.std.specs.Prelude.{None}
use Rattle.std.specs.Ordering.{is_lt}
use Rattle.std.specs.FinSet as set
use Rattle.rds_dots.specs.declared.dot.Dot.{Dot}
use Rattle.rds_dots.specs.declared.dot.Run.{Run}
use Rattle.rds_dots.specs.declared.dot.TheConstants.{MAX_SEQ}
use Rattle.rds_dots.specs.Dots.{Dots, dot_cmp, IsRun, first_of, comes_after}
use Rattle.rds_dots.specs.Lacking.{dot_of}

-- from the dot up to a number all dots are in the set, or none is, and the next isn't like them
pub record IsStretch (s : Dots) (d : Dot) (has : Bool) (until : ℕ) : Type 0 where
  pub from : d.seq ≤ until
  pub within : until ≤ MAX_SEQ
  pub alike : (n : ℕ) → d.seq ≤ n → n ≤ until → set.contains s (dot_of d.replica n) ≡ has
  pub ends : until < MAX_SEQ → set.contains s (dot_of d.replica (until + 1)) ≡ not has

-- the part of a maximal run that comes after the given dot, before which no dot of the set does
pub record IsPartAfter (s : Dots) (after : Option Dot) (r : Run) : Type 0 where
  pub is_run : IsRun r
  pub replica : r.replica ≤ 255
  pub follows : comes_after after (first_of r) ≡ true
  pub inside : (n : ℕ) → r.lo ≤ n → n ≤ r.hi → set.contains s (dot_of r.replica n) ≡ true
  pub ends : set.contains s (dot_of r.replica (r.hi + 1)) ≡ false
  pub first : (d : Dot) → comes_after after d ≡ true → is_lt (dot_cmp d (first_of r)) ≡ true → set.contains s d ≡ false

abbrev pub IsNextPart : Dots → Option Dot → Option Run → Type 0
IsNextPart s after None = (d : Dot) → comes_after after d ≡ true → set.contains s d ≡ false
IsNextPart s after (Some r) = IsPartAfter s after r

-- the first number of the run that comes after the given dot
abbrev pub seq_after : Run → Option Dot → ℕ
seq_after r None = r.lo
seq_after r (Some d) = cond ((d.replica == r.replica) && nat_le r.lo d.seq) (d.seq + 1) r.lo
