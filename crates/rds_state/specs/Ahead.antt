-- What a delta has of a replica's own that the replica lacks.
use Rattle.std.specs.Prelude.{◌≡◌, ℕ, ◌≤◌, ◌<◌, Option, Some, None, Result, Ok, Err}
use Rattle.std.specs.declared.cmp.Ordering.TheVariants.{Less}
use Rattle.rds_names.specs.declared.fault.Own.{Own}
use Rattle.rds_names.specs.declared.fault.Own.TheVariants.{Seq, Plus, Minus}
use Rattle.rds_names.specs.declared.fault.Fault.{Fault}
use Rattle.rds_names.specs.declared.fault.Fault.TheVariants.{OwnAhead}
use Rattle.rds_dots.specs.Lacking.{IsLacking}
use Rattle.rds_counts.specs.declared.row.Which.{Which}
use Rattle.rds_counts.specs.declared.row.Which.TheVariants.{P, N}
use Rattle.rds_counts.specs.Place.{Place, place_cmp}
use Rattle.rds_counts.specs.Counted.{number}
use Rattle.rds_life.specs.Life.{Lived, MergeGives, seen_of}
use Rattle.rds_state.specs.Value.{StateValue}

-- the least own number that the delta has and the replica lacks, or none
abbrev pub SeqAhead : Lived → ℕ → Lived → Option ℕ → Type 0
SeqAhead a own d = IsLacking (seen_of a) (seen_of d) own

-- no own number that was sent is above the one here
abbrev pub KnowsNumbers : (Place → ℕ) → ℕ → (Place → ℕ) → Type 0
KnowsNumbers here own sent = (q : Place) → q.replica ≡ own → sent q ≤ here q

-- the first own place, by key and P before N, where the number sent is above the one here
pub record IsFirstAbove (here : Place → ℕ) (own : ℕ) (sent : Place → ℕ) (q : Place) : Type 0 where
  pub own_place : q.replica ≡ own
  pub above : here q < sent q
  pub first : (p : Place) → p.replica ≡ own → place_cmp p q ≡ Less → sent p ≤ here p

-- the first such place is one of increments (P) or of decrements (N), and the number sent for it is n
pub record IsNumberAhead (here : Place → ℕ) (own : ℕ) (sent : Place → ℕ) (which : Which) (n : ℕ) : Type 0 where
  pub place : Place
  pub is_first : IsFirstAbove here own sent place
  pub is_which : place.which ≡ which
  pub is_sent : sent place ≡ n

abbrev pub NumberAhead : (Place → ℕ) → ℕ → (Place → ℕ) → Option Own → Type 0
NumberAhead here own sent None = KnowsNumbers here own sent
NumberAhead here own sent (Some (Seq n)) = ⊥
NumberAhead here own sent (Some (Plus n)) = IsNumberAhead here own sent P n
NumberAhead here own sent (Some (Minus n)) = IsNumberAhead here own sent N n

-- a dot that is ahead, else a number, else nothing
abbrev pub Ahead : StateValue → ℕ → StateValue → Option Own → Type 0
Ahead a own d None = SeqAhead a.lives own d.lives None × KnowsNumbers (number a.counts) own (number d.counts)
Ahead a own d (Some (Seq n)) = SeqAhead a.lives own d.lives (Some n)
Ahead a own d (Some (Plus n)) = SeqAhead a.lives own d.lives None × IsNumberAhead (number a.counts) own (number d.counts) P n
Ahead a own d (Some (Minus n)) = SeqAhead a.lives own d.lives None × IsNumberAhead (number a.counts) own (number d.counts) N n

-- when a take succeeds, and which fault it gives: first what is ahead, then what a merge gives
abbrev pub TakeGives : {T : Type 0} → StateValue → ℕ → StateValue → Result T Fault → Type 0
TakeGives a own d (Err (OwnAhead o)) = Ahead a own d (Some o)
TakeGives a own d (Err f) = Ahead a own d None × MergeGives {T = Unit {0}} a.lives d.lives (Err f)
TakeGives a own d (Ok x) = Ahead a own d None × MergeGives {T = Unit {0}} a.lives d.lives (Ok tt)
