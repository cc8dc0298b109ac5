-- What a crash may leave at any moment.
use Rattle.std.proofs.Common.{◌≡◌, ◌≤◌, ◌∙◌, ℕ, List, ◌++◌, length, take, drop, sym, ap, subst, arith, take-append-drop, take-take}
use Rattle.rds_state.specs.Fits.{ReplicaValue}
use Rattle.rds_journal.specs.Appending.{KeepsFront}
use Rattle.rds_journal.proofs.Moments.{weaker}
use Rattle.rds_keep.specs.Kept.{IsFile, IsStored}
use Rattle.rds_recovery.specs.AtAnyMoment.{IsReadWithAllOf, IsSafe, SafeIsRead, SafeIsWithin, StaysSafe, SyncedIsSafe}
use Rattle.rds_recovery.proofs.ReadingOn.{ends_on_grown, file_on, whole_front}
use Rattle.rds_recovery.proofs.WholeWithin.{whole_within}

pub synced_safe : (may_leave : List ℕ → Type 0) → SyncedIsSafe may_leave
synced_safe may_leave file v layout only stored =
    let front : take layout.whole file ≡ stored.whole = whole_front file v layout stored in
    let size : length (take layout.whole file) ≡ layout.whole = (let same = ap length front in omega (arith, same, stored.size)) in
    record {
      format = layout.format;
      snapshot = layout.snapshot;
      file = subst (λ (t : List ℕ). IsFile t layout.format layout.snapshot v) (sym front) stored.file;
      each = λ c left. ap (take (length (take layout.whole file))) (only c left) ∙ ap (λ (n : ℕ). take n file) size;
    }

-- what begins with a whole file is read on from there
begins_read : (v : ReplicaValue) (bytes : List ℕ) (may_leave : List ℕ → Type 0) → IsSafe v bytes may_leave → (c : List ℕ) → take (length bytes) c ≡ bytes → IsReadWithAllOf v c
begins_read v bytes may_leave safe c begins found holds =
    let parts : c ≡ bytes ++ drop (length bytes) c = sym (take-append-drop (length bytes) c) ∙ ap (λ (t : List ℕ). t ++ drop (length bytes) c) begins in
    ends_on_grown v (drop (length bytes) c) found
    (file_on bytes (drop (length bytes) c) safe.format safe.snapshot v found holds.0 safe.file (subst (λ (t : List ℕ). IsStored t found holds.0) parts holds.1))

pub safe_read : (may_leave : List ℕ → Type 0) → SafeIsRead may_leave
safe_read may_leave v bytes safe c left = begins_read v bytes may_leave safe c (safe.each c left)

pub safe_within : (may_leave : List ℕ → Type 0) → SafeIsWithin may_leave
safe_within may_leave v found bytes file layout safe begins read =
    let parts : file ≡ bytes ++ drop (length bytes) file = sym (take-append-drop (length bytes) file) ∙ ap (λ (t : List ℕ). t ++ drop (length bytes) file) begins in
    whole_within bytes (drop (length bytes) file) safe.format safe.snapshot v found layout safe.file (subst (λ (t : List ℕ). IsStored t found layout) parts read)

still_begins : (bytes old new : List ℕ) (end most : ℕ) → length bytes ≤ end → take (length bytes) old ≡ bytes → KeepsFront end most old new → take (length bytes) new ≡ bytes
still_begins bytes old new end most far begins keeps =
    let n = length bytes in
    sym (take-take n end new far) ∙ ap (take n) keeps.front ∙ take-take n end old far ∙ begins

module _ {D : Type 0} (moment : D → ℕ) (left_since : D → ℕ → List ℕ → Type 0) (may_leave : D → List ℕ → Type 0) (counts_now : (d : D) (t : ℕ) (c : List ℕ) → t ≤ moment d → may_leave d c → left_since d t c) where
  pub stays_safe : (old new : D) → StaysSafe moment left_since may_leave old new
  stays_safe old new v bytes end most safe far leaves = (
    weaker moment left_since old new Left (IsReadWithAllOf v) leaves (λ c from. begins_read v bytes (may_leave old) safe c (begins c from)),
    record {
      format = safe.format;
      snapshot = safe.snapshot;
      file = safe.file;
      each = λ c left. begins c (leaves.each c (counts_now new (moment old) c leaves.later left));
    },
  )
    where
      Left : List ℕ → Type 0
      Left c = (d : List ℕ) × may_leave old d × KeepsFront end most d c

      begins : (c : List ℕ) → Left c → take (length bytes) c ≡ bytes
      begins c from = still_begins bytes from.0 c end most far (safe.each from.0 from.1) from.2
