-- Runs of dots in order, each with a gap before the next.
use Rattle.std.specs.Prelude.{◌≡◌, ℕ, ◌+◌, ◌*◌, Bool, true, ◌&&◌, nat_lt, nat_le, if◌then◌else◌, List, [], ◌∷◌, Option}
use Rattle.std.specs.Prelude.{find}
use Rattle.std.specs.List.{list_any}
use Rattle.rds_dots.specs.declared.dot.Dot.{Dot}
use Rattle.rds_dots.specs.declared.dot.Run.{Run}
use Rattle.rds_dots.specs.declared.dot.TheConstants.{MAX_SEQ}
use Rattle.std.specs.FinSet as set
use Rattle.rds_dots.specs.Dots.{Dots, in_run, first_of, last_of, leads_to, comes_after}
use Rattle.rds_dots.specs.Merged.{merge_of}

-- whether one of the runs has the dot
abbrev pub runs_cover : List Run → Dot → Bool
runs_cover rs d = list_any (λ r. in_run r d) rs

-- where a dot stands among all dots, replica after replica, with a gap between two replicas
abbrev pub dot_place : ℕ → ℕ → ℕ
dot_place replica seq = replica * (MAX_SEQ + 1) + seq

abbrev pub start : Run → ℕ
start r = dot_place r.replica r.lo

abbrev pub stop : Run → ℕ
stop r = dot_place r.replica r.hi

-- whether the run has a dot, and dots alone
abbrev pub is_run : Run → Bool
is_run r = nat_le r.replica 255 && nat_le 1 r.lo && nat_le r.lo r.hi && nat_le r.hi MAX_SEQ

-- whether the first of the runs begins past a place
abbrev pub begins_past : ℕ → List Run → Bool
begins_past n [] = true
begins_past n (r ∷ rs) = nat_lt n (start r)

-- whether the runs rise with a gap before each next, so that no two of them could be one
abbrev pub are_maximal : List Run → Bool
are_maximal [] = true
are_maximal (r ∷ rs) = is_run r && begins_past (stop r + 1) rs && are_maximal rs

-- the first of the runs whose last dot comes after the given one
abbrev pub first_after : Option Dot → List Run → Option Run
first_after after rs = find (λ r. comes_after after (last_of r)) rs

-- a dot before all of the runs, put in front of them
abbrev pub put_dot : Dot → List Run → List Run
put_dot d [] = record { replica = d.replica; lo = d.seq; hi = d.seq } ∷ []
put_dot d (r ∷ rs) =
    if leads_to d (first_of r) then record { replica = d.replica; lo = d.seq; hi = r.hi } ∷ rs else (record { replica = d.replica; lo = d.seq; hi = d.seq } ∷ r ∷ rs)

-- the maximal runs of dots that rise
abbrev pub runs_of_dots : List Dot → List Run
runs_of_dots [] = []
runs_of_dots (d ∷ ds) = put_dot d (runs_of_dots ds)

-- dots in any order, in rising order
abbrev pub dots_in_order : List Dot → List Dot
dots_in_order [] = []
dots_in_order (d ∷ ds) = merge_of (d ∷ []) (dots_in_order ds)

-- the maximal runs of a set, in order
unfoldable pub runs_of : Dots → List Run
runs_of s = runs_of_dots (dots_in_order (set.items s))

-- the maximal runs of a set rise with gaps between, and have its dots and no others
pub record AreRuns (s : Dots) (rs : List Run) : Type 0 where
  pub maximal : are_maximal rs ≡ true
  pub same : (d : Dot) → runs_cover rs d ≡ set.contains s d
