-- What is reported of the sessions of a replica in a file.
use Rattle.std.specs.Prelude.{◌≡◌, ◌⊎◌, ◌≤◌, ℕ, ◌+◌, Bool, true, false, ◌||◌, List, [], ◌++◌, Option}
use Rattle.std.specs.Io.KnownBytes.{Appends}
use Rattle.rds_names.specs.declared.fault.Fault.{Fault}
use Rattle.rds_names.specs.declared.fault.Fault.TheVariants.{Device, WrongVersion}
use Rattle.rds_session.specs.declared.talk.Side.{Side}
use Rattle.rds_session.specs.declared.talk.Side.TheVariants.{Client, Server}
use Rattle.rds_session.specs.declared.version.Version.{Version}
use Rattle.rds_session.specs.declared.version.Version.TheVariants.{Two, Five}
use Rattle.rds_session.specs.Leaving.{IsOfCalls, Leaves}
use Rattle.rds_session.specs.Received.{Delivery}
use Rattle.rds_session.specs.declared.step.Ended.{Ended}
use Rattle.rds_session.specs.declared.step.Ended.TheVariants.{Failed}
use Rattle.rds_files.specs.Files.{FileValue, IsReadAt, IsReadBy, IsUnreadFile, PathValue, ReplacedValue, read_more}
use Rattle.rds_meetings.specs.Reports.{WritesNone, WritesReport, report_text, tells_fault, told_status}
use Rattle.rds_meetings.specs.Settling.{Settles, is_unkept}
use Rattle.rds_meetings.specs.declared.settling.Settled.{Settled}
use Rattle.rds_meetings.specs.declared.settling.Settled.TheVariants.{Nothing}

-- a session of this side and the replica that was read from a file, over a reader that held this at first and holds
-- this now, and a writer: it heard what the reader gave up, each byte once and in order, and where a call failed a
-- prefix of what it had to say may be written; it ended so, and what it received was settled so in what the file
-- held then
pub record IsSession (side : Side) (first now before after : Option (List ℕ)) (file : FileValue) (settled : Settled)
    (ended : Ended) : Type 0 where
  pub received : Option Delivery
  pub leaves : Leaves side file.kept received ended
  pub heard : IsOfCalls side file.kept first now before after (Unit {0}) received ended
  pub replaced : Option ReplacedValue
  pub settles : Settles file.path file.kept received settled replaced

-- a call failed before there was a session
pub record HasNotMet (settled : Settled) (ended : Ended) : Type 0 where
  pub nothing : settled ≡ Nothing
  pub device : ended ≡ Failed Device

-- a session over a stream that held this at first, or none
abbrev pub Meets : Side → Option (List ℕ) → FileValue → Settled → Ended → Type 0
Meets side first file settled ended =
    HasNotMet settled ended
    ⊎ ((now : Option (List ℕ)) × (before : Option (List ℕ)) × (after : Option (List ℕ))
    × IsSession side first now before after file settled ended)

-- a session over a stream that held this at first, or none, was reported, and nothing else
pub record WritesSession (side : Side) (held : Option (List ℕ)) (file : FileValue) (before after : Option (List ℕ))
    (status : ℕ) : Type 0 where
  pub settled : Settled
  pub ended : Ended
  pub meets : Meets side held file settled ended
  pub written : WritesReport settled ended before after status

-- a peer came, and the file gave no replica
pub record FindsNone (settled : Settled) (ended : Ended) : Type 0 where
  pub nothing : settled ≡ Nothing
  pub fault : Fault
  pub unread : IsUnreadFile fault
  pub failed : ended ≡ Failed fault

-- a peer came, whatever it told, and the session was of what the file held by then: of the next reading of it
pub record MeetsOnce (side : Side) (at : PathValue) (settled : Settled) (ended : Ended) : Type 0 where
  pub file : FileValue
  pub read : IsReadBy at file
  pub held : Option (List ℕ)
  pub meets : Meets side held file settled ended

-- no peer came, or the file was read once more
abbrev pub MeetsPeer : Side → PathValue → PathValue → Settled → Ended → Type 0
MeetsPeer side at now settled ended =
    ((now ≡ at) × HasNotMet settled ended)
    ⊎ ((now ≡ read_more at) × (FindsNone settled ended ⊎ MeetsOnce side at settled ended))

-- sessions so far: how often the file was read by now, how many there were, what is reported of them, whether a fault
-- is, and whether the file couldn't be kept
pub record Served : Type 0 where
  pub at : PathValue
  pub count : ℕ
  pub text : List ℕ
  pub told : Bool
  pub stopped : Bool

abbrev pub served_none : PathValue → Served
served_none at = record { at = at; count = 0; text = []; told = false; stopped = false }

abbrev pub served_more : Served → PathValue → Settled → Ended → Served
served_more s now settled ended =
    record {
      at = now;
      count = s.count + 1;
      text = s.text ++ report_text settled ended;
      told = s.told || tells_fault settled ended;
      stopped = is_unkept settled;
    }

-- one session after the other, each of a reading of its own, while the file is kept
pub data Serves (side : Side) (first : PathValue) : Served → Type 0 where
  none : Serves side first (served_none first)
  more : (s : Served) (now : PathValue) (settled : Settled) (ended : Ended) → Serves side first s → s.stopped ≡ false
      → MeetsPeer side s.at now settled ended → Serves side first (served_more s now settled ended)

-- the reports of sessions of the file at a path, which was read so often at first and at last, were written, and
-- nothing else, and their status is answered: of so many, or of those until it couldn't be kept
pub record WritesSessionsOf (side : Side) (first last : PathValue) (sessions : ℕ) (before after : Option (List ℕ))
    (status : ℕ) : Type 0 where
  pub served : Served
  pub serves : Serves side first served
  pub left : served.at ≡ last
  pub most : served.count ≤ sessions
  pub whole : (served.count ≡ sessions) ⊎ (served.stopped ≡ true)
  pub written : Appends before after served.text
  pub told : status ≡ told_status served.told

-- the same, of the file at this path
pub record WritesSessions (side : Side) (path : List ℕ) (sessions : ℕ) (before after : Option (List ℕ))
    (status : ℕ) : Type 0 where
  pub first : PathValue
  pub at : first.path ≡ path
  pub last : PathValue
  pub sessions_of : WritesSessionsOf side first last sessions before after status

-- why there is no session alone, or the reports of sessions
abbrev pub WritesServing : List ℕ → ℕ → Option (List ℕ) → Option (List ℕ) → ℕ → Type 0
WritesServing path sessions before after status =
    WritesNone before after status ⊎ WritesSessions Server path sessions before after status

-- the version that a client speaks: the newest, or the one before it where a session in the newest came to nothing but
-- that it isn't spoken
abbrev pub IsSpokenFor : FileValue → Version → Type 0
IsSpokenFor file version =
    (version ≡ Five)
    ⊎ ((version ≡ Two) × (first : Option (List ℕ)) × Meets (Client Five) first file Nothing (Failed WrongVersion))

-- why there is no session alone, or the report of one of the file that was read at this path
abbrev pub WritesSync : List ℕ → Option (List ℕ) → Option (List ℕ) → ℕ → Type 0
WritesSync path before after status =
    WritesNone before after status
    ⊎ ((file : FileValue) × IsReadAt path file × (version : Version) × IsSpokenFor file version
    × (held : Option (List ℕ)) × WritesSession (Client version) held file before after status)
