-- What was acknowledged is read for good.
use Rattle.std.proofs.Common.{◌≡◌, ℕ, Bool, true, false, List, [], ◌∷◌, drop, subst, ⊎_elim}
use Rattle.std.specs.List.{AllByRecursion}
use Rattle.rds_state.specs.Fits.{ReplicaValue}
use Rattle.rds_recovery.specs.Recovery.{Append, AreAppends, FileHolds, IsAppend, IsGrown, KeepsUpTo, LeavesBehind, NoneIsLost, last_left}
use Rattle.rds_recovery.proofs.ReadingOn.{changed_grown, ends_on_grown, grown_on, hold_one, not_grown, read_on}

-- what is read of the first file, where there is one that is read at the end
read_first : (file : List ℕ) (appends : List Append) (found : ReplicaValue) → AreAppends file appends → FileHolds (last_left file appends) found → (v : ReplicaValue) × FileHolds file v
read_first file [] found are read = (found, read)
read_first file (a ∷ appends) found are read = (a.change.before, (a.layout, are.0.read))

record Goes (a : Append) (kept : Bool) (next : ReplicaValue) : Type 0 where
  before : IsGrown a.change.before next
  after : kept ≡ true → IsGrown a.change.after next

one_on : (kept : Bool) (file : List ℕ) (a : Append) (next : ReplicaValue) → IsAppend file a → LeavesBehind kept file a → FileHolds a.left next → Goes a kept next
one_on kept file a next is leaves read = by kept leaves
  where
    grown : IsGrown a.change.before a.change.after
    grown = changed_grown a.change.before is.delta a.change.after is.changed

    done : FileHolds a.left a.change.after → IsGrown a.change.after next
    done holds = subst (IsGrown a.change.after) (hold_one a.left a.change.after next holds read) (not_grown a.change.after)

    all : FileHolds a.left a.change.after → IsGrown a.change.before next
    all holds = grown_on a.change.before a.change.after next grown (done holds)

    front : KeepsUpTo a.layout.whole file a.left → IsGrown a.change.before next
    front keeps = ends_on_grown a.change.before (drop a.layout.whole a.left) next (read_on file a.left a.change.before next a.layout is.read keeps read)

    by : (k : Bool) → LeavesBehind k file a → Goes a k next
    by true holds = record { before = all holds; after = λ e. done holds }
    by false left = record { before = ⊎_elim front all left; after = λ e. absurd cc }

more_kept : (v w : ReplicaValue) (appends : List Append) → IsGrown v w → AllByRecursion (λ a. a.is_kept ≡ true → IsGrown a.change.after v) appends → AllByRecursion (λ a. a.is_kept ≡ true → IsGrown a.change.after w) appends
more_kept v w [] grown all = tt
more_kept v w (a ∷ appends) grown all = (λ e. grown_on a.change.after v w (all.0 e) grown, more_kept v w appends grown all.1)

pub none_lost : (file : List ℕ) (appends : List Append) → NoneIsLost file appends
none_lost file [] first found holds are read = record { before = subst (IsGrown first) (hold_one file first found holds read) (not_grown first); acknowledged = tt }
none_lost file (a ∷ appends) first found holds are read =
    let next = read_first a.left appends found are.1 read in
    let goes = one_on a.is_kept file a next.0 are.0 are.0.leaves next.1 in
    let later = none_lost a.left appends next.0 found next.1 are.1 read in
    let same : a.change.before ≡ first = hold_one file a.change.before first (a.layout, are.0.read) holds in
    record {
      before = subst (λ (v : ReplicaValue). IsGrown v found) same (grown_on a.change.before next.0 found goes.before later.before);
      acknowledged = (λ e. grown_on a.change.after next.0 found (goes.after e) later.before, later.acknowledged);
    }
