-- What becomes of what a session received for the replica in a file.
use Rattle.std.specs.Prelude.{◌≡◌, ◌⊎◌, Bool, true, false, List, ℕ, Option, Some, None, Err}
use Rattle.rds_names.specs.Roster.{RosterValue, OneBegins, longer}
use Rattle.rds_names.specs.declared.fault.Fault.{Fault}
use Rattle.rds_names.specs.declared.fault.Fault.TheVariants.{Memory, OwnAhead, WrongAsker, WrongRoster}
use Rattle.rds_codec.specs.StateTexts.{IsSnapshot}
use Rattle.rds_delta.specs.Least.{IsAbove}
use Rattle.rds_delta.specs.Ranks.{ranks}
use Rattle.rds_keep.specs.Changes.{IsChanged}
use Rattle.rds_session.specs.Judging.{roster_among}
use Rattle.rds_session.specs.Received.{Delivery}
use Rattle.rds_state.specs.Ahead.{Ahead}
use Rattle.rds_state.specs.Coordinates.{join}
use Rattle.rds_state.specs.Fits.{ReplicaValue}
use Rattle.rds_state.specs.Grown.{TakeWithGives}
use Rattle.rds_state.specs.Value.{StateValue, coordinates, size}
use Rattle.rds_files.specs.Files.{IsReplacedAt, IsUnkept, KeptFile, RefusesLock, ReplacedValue}
use Rattle.rds_meetings.specs.declared.settling.Settled.{Settled}
use Rattle.rds_meetings.specs.declared.settling.Settled.TheVariants.{Nothing, Taken, Refused, Unkept}

-- the same replica of the same group, whatever it holds: of its two rosters one begins the other
pub record IsSameReplica (asked held : ReplicaValue) : Type 0 where
  pub rosters : OneBegins asked.roster held.roster
  pub own : held.own ≡ asked.own

-- a replica took a delta that came with this roster, and that has nothing of its own that it lacked: of the two rosters
-- one begins the other, and the longer one is kept; the state is the join
pub record JoinsWith (old : ReplicaValue) (came : RosterValue) (delta : StateValue) (new : ReplicaValue) : Type 0 where
  pub rosters : OneBegins old.roster came
  pub roster : new.roster ≡ longer old.roster came
  pub own : new.own ≡ old.own
  pub joined : coordinates new.state ≡ join (coordinates old.state) (coordinates delta)
  pub known : Ahead old.state old.own delta None

-- that the two rosters have grown apart, or what the delta has of the replica's own and the replica lacks; or want of
-- memory
abbrev pub RefusesKnown : ReplicaValue → RosterValue → StateValue → Fault → Type 0
RefusesKnown old came delta WrongRoster = ¬ (OneBegins old.roster came)
RefusesKnown old came delta (OwnAhead own) = Ahead old.state old.own delta (Some own)
RefusesKnown old came delta fault = fault ≡ Memory

-- why a delta that came with this roster isn't taken: as a take gives it, or Memory. A conflict is no such
-- cause where all that the delta has is above what is here, as where nobody else changed the file
pub record RefusesDelta (old : ReplicaValue) (came : RosterValue) (delta : StateValue) (fault : Fault) : Type 0 where
  pub gives : (fault ≡ Memory) ⊎ TakeWithGives {T = Unit {0}} old.roster came old.state old.own delta (Err fault)
  pub above : IsAbove (coordinates delta) (ranks (coordinates old.state)) → RefusesKnown old came delta fault

-- the file at this path, which held the replica that asked, was read and then replaced: by the join of what it held
-- then and the delta, under the longer of the two rosters
pub record FileTakes (path : List ℕ) (asked : ReplicaValue) (delivery : Delivery) (file : ReplacedValue) : Type 0 where
  pub replaced : IsReplacedAt path file
  pub same : IsSameReplica asked file.before
  pub joined : JoinsWith file.before (roster_among asked.roster delivery.1) delivery.0 file.kept

-- why what a file holds now doesn't take a delta: it is another replica, or a take of it is refused
abbrev pub RefusesJoin : ReplicaValue → ReplicaValue → Delivery → Fault → Type 0
RefusesJoin asked held delivery fault =
    ((fault ≡ WrongAsker) × ¬ (IsSameReplica asked held))
    ⊎ (IsSameReplica asked held × RefusesDelta held (roster_among asked.roster delivery.1) delivery.0 fault)

-- the same, of something that a file may hold
pub record RefusesHeld (asked : ReplicaValue) (delivery : Delivery) (fault : Fault) : Type 0 where
  pub held : ReplicaValue
  pub value : IsSnapshot held
  pub why : RefusesJoin asked held delivery fault

-- why the file at a path doesn't take a delta: it can't be locked and read, or what it holds doesn't take it
abbrev pub RefusesAt : List ℕ → ReplicaValue → Delivery → Fault → Type 0
RefusesAt path asked delivery fault = RefusesLock path fault ⊎ RefusesHeld asked delivery fault

-- what a file held took a delta, and can't be kept
pub record IsJoinedUnkept (asked : ReplicaValue) (delivery : Delivery) (fault : Fault) : Type 0 where
  pub held : ReplicaValue
  pub value : IsSnapshot held
  pub same : IsSameReplica asked held
  pub kept : ReplicaValue
  pub joined : JoinsWith held (roster_among asked.roster delivery.1) delivery.0 kept
  pub why : IsUnkept kept fault

-- a replica took a delta, and its roster may have grown
abbrev pub HasTaken : ReplicaValue → StateValue → ReplicaValue → Type 0
HasTaken old delta new = IsChanged old (record { roster = Some new.roster; delta = delta }) new

-- a replica that took so many components was kept in a file, or couldn't be
abbrev pub KeepsTaken : KeptFile → ReplicaValue → ℕ → Settled → Option ReplacedValue → Type 0
KeepsTaken file replica components (Taken n) (Some new) =
    (new ≡ record { path = file.path; before = file.kept; kept = replica }) × (n ≡ components)
KeepsTaken file replica components (Unkept fault) None = IsUnkept replica fault
KeepsTaken file replica components settled new = ⊥

-- what became of a delta: the file took it and keeps it, or it wasn't taken, or the file couldn't be kept
abbrev pub SettlesDelta : List ℕ → ReplicaValue → Delivery → Settled → Option ReplacedValue → Type 0
SettlesDelta path asked delivery (Taken components) (Some file) =
    FileTakes path asked delivery file × (components ≡ size delivery.0)
SettlesDelta path asked delivery (Refused fault) None = RefusesAt path asked delivery fault
SettlesDelta path asked delivery (Unkept fault) None = IsJoinedUnkept asked delivery fault
SettlesDelta path asked delivery settled file = ⊥

-- what became of what was received
abbrev pub Settles : List ℕ → ReplicaValue → Option Delivery → Settled → Option ReplacedValue → Type 0
Settles path asked None settled file = (settled ≡ Nothing) × (file ≡ None)
Settles path asked (Some delivery) settled file = SettlesDelta path asked delivery settled file

abbrev pub is_fault : Settled → Bool
is_fault (Refused fault) = true
is_fault (Unkept fault) = true
is_fault _ = false

abbrev pub is_unkept : Settled → Bool
is_unkept (Unkept fault) = true
is_unkept _ = false
