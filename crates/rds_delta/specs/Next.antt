-- What comes next among the dots of a delta, against the ranks of a peer.
use Rattle.std.specs.Prelude.{◌≡◌, ◌≢◌, ℕ, ◌+◌, ◌<◌, ◌≤◌, Bool, true, false, Option, Some, None, is_some}
use Rattle.std.specs.Ordering.{is_lt}
use Rattle.std.specs.FinMap as map
use Rattle.rds_dots.specs.declared.dot.Dot.{Dot}
use Rattle.rds_dots.specs.declared.dot.Run.{Run}
use Rattle.rds_dots.specs.declared.dot.TheConstants.{MAX_SEQ}
use Rattle.rds_dots.specs.Dots.{dot_cmp, IsRun, first_of, comes_after}
use Rattle.rds_dots.specs.Lacking.{dot_of}
use Rattle.rds_life.specs.Life.{Dead, Lived, entry_of}
use Rattle.rds_delta.specs.declared.step.DotRow.{DotRow}
use Rattle.rds_delta.specs.declared.step.DotRow.TheVariants as dots

-- the function is the same from the dot up to a number, and another at the next
pub record IsAlike (f : Dot → ℕ) (d : Dot) (value until : ℕ) : Type 0 where
  pub from : d.seq ≤ until
  pub within : until ≤ MAX_SEQ
  pub alike : (n : ℕ) → d.seq ≤ n → n ≤ until → f (dot_of d.replica n) ≡ value
  pub ends : until < MAX_SEQ → f (dot_of d.replica (until + 1)) ≢ value

abbrev pub is_live : Lived → Dot → Bool
is_live v d = is_some (entry_of (map.get v d))

-- no dot lives from the given one up to a number, and the next does
pub record IsLifeless (v : Lived) (d : Dot) (until : ℕ) : Type 0 where
  pub from : d.seq ≤ until
  pub none : (n : ℕ) → d.seq ≤ n → n ≤ until → is_live v (dot_of d.replica n) ≡ false
  pub ends : until < MAX_SEQ → is_live v (dot_of d.replica (until + 1)) ≡ true

abbrev pub IsLifelessUntil : Lived → Dot → Option ℕ → Type 0
IsLifelessUntil v d None = is_live v d ≡ true
IsLifelessUntil v d (Some until) = IsLifeless v d until

-- nothing stands between
abbrev pub IsGap : Lived → Option Dot → Dot → Type 0
IsGap v after d = (q : Dot) → comes_after after q ≡ true → is_lt (dot_cmp q d) ≡ true → map.get v q ≡ None

pub record IsNextLive (peer : Dot → ℕ) (v : Lived) (after : Option Dot) (d : Dot) (p : ℕ) : Type 0 where
  pub follows : comes_after after d ≡ true
  pub gap : IsGap v after d
  pub live : is_live v d ≡ true
  pub rank : peer d ≡ p

pub record IsNextDead (peer : Dot → ℕ) (v : Lived) (after : Option Dot) (r : Run) (p : ℕ) : Type 0 where
  pub is_run : IsRun r
  pub follows : comes_after after (first_of r) ≡ true
  pub gap : IsGap v after (first_of r)
  pub dead : (n : ℕ) → r.lo ≤ n → n ≤ r.hi → map.get v (dot_of r.replica n) ≡ Some Dead
  pub rank : (n : ℕ) → r.lo ≤ n → n ≤ r.hi → peer (dot_of r.replica n) ≡ p
  pub ends : map.get v (dot_of r.replica (r.hi + 1)) ≡ Some Dead → peer (dot_of r.replica (r.hi + 1)) ≢ p

abbrev pub IsNextRow : (Dot → ℕ) → Lived → Option Dot → Option DotRow → Type 0
IsNextRow peer v after None = (d : Dot) → comes_after after d ≡ true → map.get v d ≡ None
IsNextRow peer v after (Some (dots.Live d p)) = IsNextLive peer v after d p
IsNextRow peer v after (Some (dots.Dead r p)) = IsNextDead peer v after r p
