-- Sessions of files as events of the model.
use Rattle.std.specs.Prelude.{◌≡◌, ◌≢◌, ℕ, List, [], ◌∷◌, length, Some}
use Rattle.rds_delta.specs.Digested.{digest_of}
use Rattle.rds_state.specs.Fits.{ReplicaValue}
use Rattle.rds_state.specs.Mark.{mark_of}
use Rattle.rds_session.specs.Meeting.{IsItsLeast}
use Rattle.rds_session.specs.Received.{Delivery}
use Rattle.rds_world.specs.Coherent.{HasRosters}
use Rattle.rds_world.specs.Replicas.{IsAnsweredIn, IsAskedIn, IsKeptIn, LeadsTo}
use Rattle.rds_world.specs.World.{World, Happening, Of, AnswerLent, Accepted, run}
use Rattle.rds_world.specs.declared.event.Event.TheVariants.{Ask, Crash, Save, Take}
use Rattle.rds_files.specs.Files.{ReplacedValue}
use Rattle.rds_meetings.specs.Forks.{AreForked}
use Rattle.rds_meetings.specs.Settling.{Settles}
use Rattle.rds_meetings.specs.declared.settling.Settled.TheVariants.{Taken}

-- a file is read, and its replica asks; what it had kept then is what its session answers from
abbrev pub reading_events : ReplicaValue → List Happening
reading_events read = Of (Ask read.own) ∷ []

-- the replica that made one ask answers the other
abbrev pub answering_events : ℕ → ℕ → List Happening
answering_events lent number = AnswerLent lent number ∷ []

-- a file is read, takes the answer with this number, and is replaced
abbrev pub settling_events : ReplicaValue → ℕ → List Happening
settling_events asked number = Of (Crash asked.own) ∷ Of (Take number) ∷ Of (Save asked.own) ∷ []

-- the events happened, and the replica of the file has kept what the file holds by now; the others have kept what they
-- had
abbrev pub LeavesFile : World → List Happening → ReplacedValue → Type 0
LeavesFile w events file = LeadsTo w events file.kept

-- what each side of a session begins with: it reads its file, and asks
abbrev pub ReadingsAreAsks : Type 0
ReadingsAreAsks = (w : World) (read : ReplicaValue) → IsKeptIn w read
    → Accepted (reading_events read) w × IsAskedIn (run (reading_events read) w) (length w.asks) read

-- what the one then answers the other, whatever happened to their files since
abbrev pub SessionsAreAnswered : Type 0
SessionsAreAnswered = (w : World) (number lent : ℕ) (asked peer : ReplicaValue) → IsAskedIn w number asked
    → IsAskedIn w lent peer → Accepted (answering_events lent number) w
    × IsAnsweredIn (run (answering_events lent number) w) (length w.answers) asked peer

-- what becomes of what it received, whatever happened since: the file takes the answer
abbrev pub SettlingsAreTakes : Type 0
SettlingsAreTakes = (w : World) (number : ℕ) (asked peer : ReplicaValue) (path : List ℕ) (delivery : Delivery)
    (components : ℕ) (file : ReplacedValue) → HasRosters w → IsAnsweredIn w number asked peer
    → IsItsLeast peer asked (Some delivery) → IsKeptIn w file.before
    → Settles path asked (Some delivery) (Taken components) (Some file)
    → LeavesFile w (settling_events asked number) file

-- replicas that have seen the same, and have different marks, are forked as `pair` tells it
abbrev pub LevelForksAreTold : Type 0
LevelForksAreTold = (one other : ReplicaValue) → one.roster ≡ other.roster
    → digest_of one.state ≡ digest_of other.state → mark_of one.state ≢ mark_of other.state → AreForked one other
