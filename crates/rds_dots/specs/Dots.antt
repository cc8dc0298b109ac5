-- Dots in order, sets of dots, and runs.
use Rattle.std.specs.Prelude.{◌≡◌, ℕ, ◌+◌, ◌≤◌, Bool, true, ◌&&◌, ◌==◌, nat_le, Option, Some, None}
use Rattle.std.specs.Ordering.{nat_cmp, ordering_then, is_lt}
use Rattle.std.specs.declared.cmp.Ordering.{Ordering}
use Rattle.std.specs.FinSet as set
use Rattle.rds_dots.specs.declared.dot.Dot.{Dot}
use Rattle.rds_dots.specs.declared.dot.Run.{Run}
use Rattle.rds_dots.specs.declared.dot.TheConstants.{MAX_SEQ}

-- by replica, then by number
abbrev pub dot_cmp : Dot → Dot → Ordering
dot_cmp a b = ordering_then (nat_cmp a.replica b.replica) (nat_cmp a.seq b.seq)

-- a finite set of dots
abbrev pub Dots : Type 0
Dots = set.FinSet dot_cmp

-- whether a dot is one: its number is 1 to MAX_SEQ
abbrev pub is_dot : Dot → Bool
is_dot d = nat_le d.replica 255 && nat_le 1 d.seq && nat_le d.seq MAX_SEQ

-- a run of at least one dot
pub record IsRun (r : Run) : Type 0 where
  pub from_one : 1 ≤ r.lo
  pub rises : r.lo ≤ r.hi
  pub within : r.hi ≤ MAX_SEQ

-- whether the run has the dot
abbrev pub in_run : Run → Dot → Bool
in_run r d = (d.replica == r.replica) && nat_le r.lo d.seq && nat_le d.seq r.hi

abbrev pub first_of : Run → Dot
first_of r = record { replica = r.replica; seq = r.lo }

abbrev pub last_of : Run → Dot
last_of r = record { replica = r.replica; seq = r.hi }

-- whether the second dot is the next of the first one's replica
abbrev pub leads_to : Dot → Dot → Bool
leads_to d e = (d.replica == e.replica) && (d.seq + 1 == e.seq)

-- the greatest number of the replica, 0 where there is none
pub record IsTop (s : Dots) (replica top : ℕ) : Type 0 where
  pub at_most : (n : ℕ) → let d : Dot = record { replica = replica; seq = n } in set.contains s d ≡ true → n ≤ top
  pub there : 1 ≤ top → let d : Dot = record { replica = replica; seq = top } in set.contains s d ≡ true

-- whether the dot comes after the given one, as each does where there is none
abbrev pub comes_after : Option Dot → Dot → Bool
comes_after None d = true
comes_after (Some a) d = is_lt (dot_cmp a d)
