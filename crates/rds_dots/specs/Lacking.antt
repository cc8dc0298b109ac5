-- What one set has of a replica's dots and another lacks.
use Rattle.std.specs.Prelude.{◌≡◌, ℕ, ◌+◌, ◌<◌, ◌≤◌, true, false, Option, Some, None}
use Rattle.std.specs.FinSet as set
use Rattle.rds_dots.specs.declared.dot.Dot.{Dot}
use Rattle.rds_dots.specs.declared.dot.Run.{Run}
use Rattle.rds_dots.specs.declared.dot.TheConstants.{MAX_SEQ}
use Rattle.rds_dots.specs.Dots.{Dots}

abbrev pub dot_of : ℕ → ℕ → Dot
dot_of replica seq = record { replica = replica; seq = seq }

-- what the second set has of the replica, the first has
abbrev pub HasAll : Dots → Dots → ℕ → Type 0
HasAll s t replica = (n : ℕ) → set.contains t (dot_of replica n) ≡ true → set.contains s (dot_of replica n) ≡ true

-- the least number of the replica that the second set has and the first lacks
pub record IsFirstLacking (s t : Dots) (replica n : ℕ) : Type 0 where
  pub there : set.contains t (dot_of replica n) ≡ true
  pub lacking : set.contains s (dot_of replica n) ≡ false
  pub first : (m : ℕ) → m < n → set.contains t (dot_of replica m) ≡ true → set.contains s (dot_of replica m) ≡ true

abbrev pub IsLacking : Dots → Dots → ℕ → Option ℕ → Type 0
IsLacking s t replica None = HasAll s t replica
IsLacking s t replica (Some n) = IsFirstLacking s t replica n

-- the maximal run of the replica that ends first after a number
pub record IsNextRun (s : Dots) (replica after : ℕ) (r : Run) : Type 0 where
  pub starts : 1 ≤ r.lo
  pub rises : r.lo ≤ r.hi
  pub within : r.hi ≤ MAX_SEQ
  pub ends : after < r.hi
  pub inside : (n : ℕ) → r.lo ≤ n → n ≤ r.hi → set.contains s (dot_of replica n) ≡ true
  pub gap : (n : ℕ) → after < n → n < r.lo → set.contains s (dot_of replica n) ≡ false
  pub next : set.contains s (dot_of replica (r.hi + 1)) ≡ false

abbrev pub NextRun : Dots → ℕ → ℕ → Option Run → Type 0
NextRun s replica after None = (n : ℕ) → after < n → set.contains s (dot_of replica n) ≡ false
NextRun s replica after (Some r) = IsNextRun s replica after r
