-- What documents answer one another, and take.
use Rattle.std.specs.Prelude.{◌⊎◌, ◌≤◌, ◌↔◌, ℕ, List, length, Result, Ok, Err}
use Rattle.std.specs.Global.{Vec}
use Rattle.rds_codec.specs.Decoding.{Decodes, IsTextOf}
use Rattle.rds_codec.specs.FormatWriting.{EncodesTabled}
use Rattle.rds_codec.specs.declared.limits.TheConstants.{LIMIT}
use Rattle.rds_keep.specs.Kept.{RefusesBytes as RefusesFileBytes}
use Rattle.rds_names.specs.declared.fault.Fault.{Fault}
use Rattle.rds_offline.specs.Letters.{RefusesLetter}
use Rattle.rds_offline.specs.Merging.{CountsLacking, IsMergedFrom, RefusesMerge}
use Rattle.rds_questions.specs.Lacking.{IsLevel, LackNothing, LacksGives}
use Rattle.rds_questions.specs.Questions.{QuestionValue, question_kind, question_of, question_text}
use Rattle.rds_questions.specs.Receiving.{IsReceivedFrom, ReceivedValue}
use Rattle.rds_questions.specs.Responding.{RespondGives}
use Rattle.rds_questions.specs.Taking.{TakesReceived}
use Rattle.rds_questions.specs.declared.lacking.Lacks.{Lacks}
use Rattle.rds_state.specs.Fits.{ReplicaValue}
use Rattle.rds_store.specs.Documents.{IsHeldBy}

-- the text of what a replica asks, or why there is none: it is above the limit, or memory ran out
abbrev pub MayAsk : ReplicaValue → Result (Vec ℕ) Fault → Type 0
MayAsk held = EncodesTabled (question_text (question_of held))

-- the bytes are the text of a question within the limit, and this is what a replica responds to it
pub record RespondsTo (question : List ℕ) (held : ReplicaValue) (result : Result (Vec ℕ) Fault) : Type 0 where
  pub asked : QuestionValue
  pub within : length question ≤ LIMIT
  pub is_question : IsTextOf question_kind question asked
  pub responds : RespondGives asked held result

-- what a replica answers to bytes: its response, or that they are no question
abbrev pub MayAnswer : List ℕ → ReplicaValue → Result (Vec ℕ) Fault → Type 0
MayAnswer question held (Ok bytes) = RespondsTo question held (Ok bytes)
MayAnswer question held (Err fault) = Decodes question_kind question (Err fault) ⊎ RespondsTo question held (Err fault)

-- the bytes are the text of a question within the limit, and this is what a replica and the one that asked lack of one
-- another's
pub record AnswersLacks (question : List ℕ) (held : ReplicaValue) (result : Result Lacks Fault) : Type 0 where
  pub asked : QuestionValue
  pub within : length question ≤ LIMIT
  pub is_question : IsTextOf question_kind question asked
  pub gives : LacksGives asked held result

-- what is lacking, or that the bytes are no question, or why who asks isn't told
abbrev pub MayTellLacks : List ℕ → ReplicaValue → Result Lacks Fault → Type 0
MayTellLacks question held (Ok lacks) = AnswersLacks question held (Ok lacks)
MayTellLacks question held (Err fault) =
    Decodes question_kind question (Err fault) ⊎ AnswersLacks question held (Err fault)

-- the bytes are the text of a question, and nothing is lacking exactly where the one that asked has the same roster and
-- the same digest
pub record TellsLevel (question : List ℕ) (held : ReplicaValue) (lacks : Lacks) : Type 0 where
  pub asked : QuestionValue
  pub is_question : IsTextOf question_kind question asked
  pub level : LackNothing lacks ↔ IsLevel asked held

-- the replica doesn't take what a response to a question brought
pub record RefusesReceived (question answer : List ℕ) (before : ReplicaValue) (fault : Fault) : Type 0 where
  pub asked : QuestionValue
  pub is_question : IsTextOf question_kind question asked
  pub received : ReceivedValue
  pub is_received : IsReceivedFrom asked answer received
  pub why : TakesReceived asked before received (Err fault)

-- why no answer is taken: the bytes are no question, or bring nothing for it, or the replica doesn't take it
abbrev pub RefusesTaking : List ℕ → List ℕ → ReplicaValue → Fault → Type 0
RefusesTaking question answer before fault =
    Decodes question_kind question (Err fault)
    ⊎ (RefusesLetter question answer fault ⊎ RefusesReceived question answer before fault)

-- all that the replica of a snapshot has seen, with the records behind it, was joined, of which so many components were
-- lacking
pub record MergesSnapshot (snapshot : List ℕ) (before after : ReplicaValue) (components : ℕ) : Type 0 where
  pub source : ReplicaValue
  pub held : IsHeldBy snapshot source
  pub merged : IsMergedFrom source before after
  pub counted : CountsLacking source before components

-- why a snapshot isn't merged: the bytes are none, or the replica doesn't take what the other has seen
abbrev pub RefusesSnapshot : List ℕ → ReplicaValue → Fault → Type 0
RefusesSnapshot snapshot before fault =
    RefusesFileBytes snapshot fault
    ⊎ ((source : ReplicaValue) × IsHeldBy snapshot source × RefusesMerge source before fault)
