-- Questions and answers that go as texts, as events of the model.
use Rattle.std.specs.Prelude.{ℕ, Bool, List, [], ◌∷◌, length}
use Rattle.rds_files.specs.Files.{FileValue, ReplacedValue}
use Rattle.rds_offline.specs.Letters.{AnswersFile, AsksFile, TakesFile}
use Rattle.rds_state.specs.Fits.{ReplicaValue}
use Rattle.rds_world.specs.Coherent.{HasRosters}
use Rattle.rds_world.specs.Replicas.{IsAnsweredIn, IsAskedIn, IsKeptIn}
use Rattle.rds_world.specs.World.{World, Happening, Of, Accepted, run}
use Rattle.rds_world.specs.declared.event.Event.TheVariants.{Answer}
use Rattle.rds_commands.specs.Sessions.{LeavesFile, reading_events, settling_events}

abbrev pub answer_events : ReplicaValue → ℕ → List Happening
answer_events peer number = Of (Answer peer.own number) ∷ []

-- a question that is written of a file is what its replica asks in the model
abbrev pub QuestionsAreAsks : Type 0
QuestionsAreAsks = (w : World) (path bytes : List ℕ) (file : FileValue) → AsksFile path file bytes → IsKeptIn w file.kept
    → Accepted (reading_events file.kept) w × IsAskedIn (run (reading_events file.kept) w) (length w.asks) file.kept

-- an answer that is written of a file to that question, at any later time, is what its replica answers in the model
abbrev pub AnswersAreAnswers : Type 0
AnswersAreAnswers =
    (w : World) (number : ℕ) (asked_path path question answer : List ℕ) (asking answering : FileValue)
    → AsksFile asked_path asking question → IsAskedIn w number asking.kept
    → AnswersFile path question answering answer → IsKeptIn w answering.kept
    → Accepted (answer_events answering.kept number) w
    × IsAnsweredIn (run (answer_events answering.kept number) w) (length w.answers) asking.kept answering.kept

-- a file that takes that answer to that question, at any later time, is a replica that takes it in the model
abbrev pub TakesAreTakes : Type 0
TakesAreTakes =
    (w : World) (number components : ℕ) (asked_path peer_path path question answer : List ℕ)
    (asking answering : FileValue) (file : ReplacedValue) (forked : Bool) → HasRosters w → AsksFile asked_path asking question
    → AnswersFile peer_path question answering answer → IsAnsweredIn w number asking.kept answering.kept
    → IsKeptIn w file.before → TakesFile path question answer file components forked
    → LeavesFile w (settling_events asking.kept number) file
