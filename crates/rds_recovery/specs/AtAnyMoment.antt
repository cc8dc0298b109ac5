-- What a crash may leave at any moment of appends that come one after the other.
use Rattle.std.specs.Prelude.{◌≡◌, ◌≤◌, ℕ, List, length, take}
use Rattle.rds_codec.specs.declared.formats.Format.{Format}
use Rattle.rds_state.specs.Fits.{ReplicaValue}
use Rattle.rds_journal.specs.Appending.{KeepsFront}
use Rattle.rds_journal.specs.Device.{LeavesOnly, Only}
use Rattle.rds_keep.specs.Kept.{IsFile, IsStored}
use Rattle.rds_keep.specs.declared.layout.Layout.{Layout}
use Rattle.rds_recovery.specs.Recovery.{FileHolds, IsGrown}

-- what is read of the file has all that the replica has
abbrev pub IsReadWithAllOf : ReplicaValue → List ℕ → Type 0
IsReadWithAllOf v file = (found : ReplicaValue) → FileHolds file found → IsGrown v found

-- whatever a crash leaves begins with these bytes, which are a whole file of the replica
pub record IsSafe (v : ReplicaValue) (bytes : List ℕ) (may_leave : List ℕ → Type 0) : Type 0 where
  pub format : Format
  pub snapshot : ℕ
  pub file : IsFile bytes format snapshot v
  pub each : (c : List ℕ) → may_leave c → take (length bytes) c ≡ bytes

-- so it is of a file that was synced, up to the end of its whole records
abbrev pub SyncedIsSafe : (List ℕ → Type 0) → Type 0
SyncedIsSafe may_leave =
    (file : List ℕ) (v : ReplicaValue) (layout : Layout) → Only file may_leave → IsStored file v layout
    → IsSafe v (take layout.whole file) may_leave

-- a crash then leaves what has all of it
abbrev pub SafeIsRead : (List ℕ → Type 0) → Type 0
SafeIsRead may_leave =
    (v : ReplicaValue) (bytes : List ℕ) → IsSafe v bytes may_leave → (c : List ℕ) → may_leave c → IsReadWithAllOf v c

-- the whole records of a file that begins with these bytes end no further to the front
abbrev pub SafeIsWithin : (List ℕ → Type 0) → Type 0
SafeIsWithin may_leave =
    (v found : ReplicaValue) (bytes file : List ℕ) (layout : Layout) → IsSafe v bytes may_leave
    → take (length bytes) file ≡ bytes → IsStored file found layout → length bytes ≤ layout.whole

-- it stays safe at any moment of an append behind it, done or failed, and after it
abbrev pub StaysSafe : {D : Type 0} → (D → ℕ) → (D → ℕ → List ℕ → Type 0) → (D → List ℕ → Type 0) → D → D → Type 0
StaysSafe moment left_since may_leave old new =
    (v : ReplicaValue) (bytes : List ℕ) (end most : ℕ) → IsSafe v bytes (may_leave old) → length bytes ≤ end
    → LeavesOnly moment left_since old new (λ c. (d : List ℕ) × may_leave old d × KeepsFront end most d c)
    → LeavesOnly moment left_since old new (IsReadWithAllOf v) × IsSafe v bytes (may_leave new)
