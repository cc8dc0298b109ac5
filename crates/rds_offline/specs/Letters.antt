-- Questions and answers of the replicas in files, as texts that go by any means.
use Rattle.std.specs.Prelude.{◌≡◌, ◌⊎◌, ◌<◌, ◌≤◌, ◌↔◌, ℕ, Bool, IsTrue, List, length, None, Ok, Err}
use Rattle.rds_names.specs.declared.fault.Fault.{Fault}
use Rattle.rds_names.specs.declared.fault.Fault.TheVariants.{Memory, TooLong}
use Rattle.rds_codec.specs.Decoding.{Decodes, IsTextOf, all_of}
use Rattle.rds_codec.specs.StateTexts.{IsSnapshot}
use Rattle.rds_codec.specs.declared.limits.TheConstants.{LIMIT}
use Rattle.rds_files.specs.Files.{FileValue, IsReadAt, IsReplacedAt, IsUnkept, IsUnreadFile, RefusesLock, ReplacedValue}
use Rattle.rds_listing.specs.Evidence.{evidence_text}
use Rattle.rds_questions.specs.Forks.{TellsFork}
use Rattle.rds_questions.specs.Greeting.{GreetGives}
use Rattle.rds_questions.specs.Questions.{QuestionValue, askers_of, question_kind, question_of, question_text}
use Rattle.rds_questions.specs.Receiving.{IsReceivedFrom, ReceivedValue, ReceivesRead}
use Rattle.rds_questions.specs.Responding.{IsRespondedBy, RespondGives}
use Rattle.rds_questions.specs.Responses.{response_at}
use Rattle.rds_questions.specs.Tags.{RefusesTag}
use Rattle.rds_questions.specs.Taking.{HasAllOf, IsAsker, TakesReceived}
use Rattle.rds_state.specs.Ahead.{Ahead}
use Rattle.rds_state.specs.Coordinates.{join}
use Rattle.rds_state.specs.Fits.{ReplicaValue}
use Rattle.rds_names.specs.Roster.{OneBegins, longer}
use Rattle.rds_state.specs.Value.{coordinates, size}

-- ---- asking

-- the file at a path was read, and these bytes are the question of the replica that it held
pub record AsksFile (path : List ℕ) (file : FileValue) (bytes : List ℕ) : Type 0 where
  pub read : IsReadAt path file
  pub text : bytes ≡ question_text (question_of file.kept)

-- ---- answering

-- the file at a path was read, and these bytes are the response of the replica that it held to the question whose text
-- was given
pub record AnswersFile (path question : List ℕ) (file : FileValue) (bytes : List ℕ) : Type 0 where
  pub read : IsReadAt path file
  pub asked : QuestionValue
  pub within : length question ≤ LIMIT
  pub is_question : IsTextOf question_kind question asked
  pub greets : GreetGives {T = Unit {0}} file.kept.roster file.kept.own asked.hello (Ok tt)
  pub responds : IsRespondedBy asked file.kept bytes

-- the replica in a file doesn't respond to the question
pub record RefusesQuestion (question : List ℕ) (fault : Fault) : Type 0 where
  pub asked : QuestionValue
  pub is_question : IsTextOf question_kind question asked
  pub held : ReplicaValue
  pub value : IsSnapshot held
  pub why : RespondGives asked held (Err fault)

-- why the file at a path gives no answer: the bytes are no question; else there is no replica in the file, or it
-- doesn't respond
abbrev pub RefusesAnswer : List ℕ → Fault → Type 0
RefusesAnswer question fault =
    Decodes question_kind question (Err fault) ⊎ (IsUnreadFile fault ⊎ RefusesQuestion question fault)

-- ---- taking

-- a replica took what was received: the join, and the longer of the rosters
pub record IsTakenFrom (received : ReceivedValue) (before after : ReplicaValue) : Type 0 where
  pub rosters : OneBegins before.roster received.roster
  pub roster : after.roster ≡ longer before.roster received.roster
  pub own : after.own ≡ before.own
  pub joined : coordinates after.state ≡ join (coordinates before.state) (coordinates received.delta)
  pub known : Ahead before.state before.own received.delta None

-- the replica that asked, or what it has become since, took what a response to its question brought
pub record TakesResponse (question answer : List ℕ) (before after : ReplicaValue) (components : ℕ) : Type 0 where
  pub asked : QuestionValue
  pub within : length question ≤ LIMIT
  pub is_question : IsTextOf question_kind question asked
  pub received : ReceivedValue
  pub is_received : IsReceivedFrom asked answer received
  pub replica : IsAsker asked before
  pub has_all : HasAllOf asked.digest before.state
  pub taken : IsTakenFrom received before after
  pub count : components ≡ size received.delta

-- the file at a path was read under its lock, and keeps what it held then with what the answer brought, whether that
-- tells a fork or not
pub record TakesFile (path question answer : List ℕ) (file : ReplacedValue) (components : ℕ) (forked : Bool)
    : Type 0 where
  pub read : IsReplacedAt path file
  pub takes : TakesResponse question answer file.before file.kept components
  pub forks : IsTrue forked ↔ TellsFork file.kept takes.received

-- the file at a path took so many components of an answer to its question, and keeps them
abbrev pub TakesAnswer : List ℕ → ℕ → Type 0
TakesAnswer path components =
    (question : List ℕ) × (answer : List ℕ) × (file : ReplacedValue) × (forked : Bool)
    × TakesFile path question answer file components forked

-- so many components were taken by the file at a path: none, since nothing was lacking, or those of an answer
abbrev pub IsBrought : List ℕ → ℕ → Type 0
IsBrought path components = (components ≡ 0) ⊎ TakesAnswer path components

-- why what was received isn't taken and kept: a take of it is refused, or the new replica has no tag or can't be kept
abbrev pub RefusesTakeIn : QuestionValue → ReceivedValue → ReplicaValue → Fault → Type 0
RefusesTakeIn asked received before fault =
    TakesReceived asked before received (Err fault)
    ⊎ ((after : ReplicaValue) × IsTakenFrom received before after × (RefusesTag after fault ⊎ IsUnkept after fault))

-- the same, of something that a file may hold
pub record RefusesResponse (question answer : List ℕ) (fault : Fault) : Type 0 where
  pub asked : QuestionValue
  pub is_question : IsTextOf question_kind question asked
  pub received : ReceivedValue
  pub is_received : IsReceivedFrom asked answer received
  pub before : ReplicaValue
  pub value : IsSnapshot before
  pub why : RefusesTakeIn asked received before fault

-- bytes bring nothing for a question: they are too many, or reading them as a response doesn't give one for it
abbrev pub BringsNothing : QuestionValue → List ℕ → Fault → Type 0
BringsNothing asked bytes fault =
    ((LIMIT < length bytes) × (fault ≡ TooLong))
    ⊎ ((length bytes ≤ LIMIT) × ReceivesRead asked (all_of (response_at (askers_of asked)) bytes) (Err fault))

-- the bytes of an answer bring nothing for the question whose text was given
pub record RefusesLetter (question answer : List ℕ) (fault : Fault) : Type 0 where
  pub asked : QuestionValue
  pub is_question : IsTextOf question_kind question asked
  pub why : BringsNothing asked answer fault

-- why the file at a path takes no answer: the bytes are no question, or bring nothing for it; else the file can't be
-- locked and read, or what it holds doesn't take it
abbrev pub RefusesTake : List ℕ → List ℕ → List ℕ → Fault → Type 0
RefusesTake path question answer fault =
    Decodes question_kind question (Err fault)
    ⊎ (RefusesLetter question answer fault ⊎ (RefusesLock path fault ⊎ RefusesResponse question answer fault))

-- ---- looking at an answer

-- the lines tell what the answer brings to the question, in whose texts these bytes are
pub record ChecksTexts (question answer lines : List ℕ) : Type 0 where
  pub asked : QuestionValue
  pub is_question : IsTextOf question_kind question asked
  pub received : ReceivedValue
  pub is_received : IsReceivedFrom asked answer received
  pub told : lines ≡ evidence_text received.roster received.delta received.certificate

-- why there are none: the bytes are no question, or bring nothing for it; or Memory
abbrev pub RefusesCheck : List ℕ → List ℕ → Fault → Type 0
RefusesCheck question answer fault =
    Decodes question_kind question (Err fault) ⊎ (RefusesLetter question answer fault ⊎ (fault ≡ Memory))
