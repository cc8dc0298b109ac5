-- The laws of questions and responses.
use Rattle.std.specs.Prelude.{◌≡◌, ◌≢◌, ◌≤◌, ℕ, List, ◌++◌, length, Ok}
use Rattle.rds_state.specs.Fits.{ReplicaValue}
use Rattle.rds_names.specs.Roster.{OneBegins, longer}
use Rattle.rds_state.specs.Value.{coordinates}
use Rattle.rds_delta.specs.Digested.{ranks_in}
use Rattle.rds_delta.specs.Least.{least}
use Rattle.rds_delta.specs.Ranks.{ranks}
use Rattle.rds_codec.specs.Decoding.{all_of}
use Rattle.rds_codec.specs.FormatTexts.{Snapshot, snapshot_text_in}
use Rattle.rds_codec.specs.StateTexts.{IsSnapshot}
use Rattle.rds_codec.specs.declared.limits.TheConstants.{LIMIT}
use Rattle.rds_questions.specs.Questions.{IsQuestion, QuestionValue, askers_of, question_of, question_text}
use Rattle.rds_questions.specs.Receiving.{ReceiveGives, received_of}
use Rattle.rds_questions.specs.Responding.{IsResponseTo}
use Rattle.rds_questions.specs.Responses.{ResponseValue, response_at, response_text}

-- what a replica with a text asks has one, and tells how far the replica has come
pub record AsksWell (asked : ReplicaValue) : Type 0 where
  pub question : IsQuestion (question_of asked)
  pub told : ranks_in (question_of asked).digest ≡ ranks (coordinates asked.state)

abbrev pub ReplicasAskWell : Type 0
ReplicasAskWell = (asked : ReplicaValue) → IsSnapshot asked → AsksWell asked

-- there is one response of a replica to a question
abbrev pub HaveOneResponse : Type 0
HaveOneResponse = (q : QuestionValue) (peer : ReplicaValue) (r s : ResponseValue) → IsResponseTo q peer r
    → IsResponseTo q peer s → r ≡ s

-- a question with a text, and the response to it, within the limit, of a replica with a text that may talk to who asks
pub record IsAnswered (q : QuestionValue) (peer : ReplicaValue) (r : ResponseValue) : Type 0 where
  pub question : IsQuestion q
  pub peer_text : IsSnapshot peer
  pub rosters : OneBegins q.hello.roster peer.roster
  pub others : q.hello.own ≢ peer.own
  pub responds : IsResponseTo q peer r
  pub within : length (response_text r) ≤ LIMIT

-- it is read again and judged good, and brings what the peer has and the one that asked lacks, and the longer roster
pub record BringsLacking (q : QuestionValue) (peer : ReplicaValue) (r : ResponseValue) : Type 0 where
  pub again : all_of (response_at (askers_of q)) (response_text r) ≡ Ok r
  pub received : ReceiveGives q r (Ok (received_of q r))
  pub delta : coordinates (received_of q r).delta ≡ least (coordinates peer.state) (ranks_in q.digest)
  pub roster : (received_of q r).roster ≡ longer q.hello.roster peer.roster

abbrev pub ResponsesAreReceived : Type 0
ResponsesAreReceived = (q : QuestionValue) (peer : ReplicaValue) (r : ResponseValue) → IsAnswered q peer r
    → BringsLacking q peer r

-- the same of what a replica with a text asks, in terms of what the two hold
abbrev pub DeltasAreLeast : Type 0
DeltasAreLeast = (asked peer : ReplicaValue) (r : ResponseValue) → IsAnswered (question_of asked) peer r
    → coordinates (received_of (question_of asked) r).delta
    ≡ least (coordinates peer.state) (ranks (coordinates asked.state))

-- a question, a response and a snapshot begin with other bytes
pub record AreToldApart : Type 0 where
  pub question_response : (q : QuestionValue) (r : ResponseValue) (x y : List ℕ)
      → question_text q ++ x ≡ response_text r ++ y → ⊥
  pub question_snapshot : (q : QuestionValue) (s : Snapshot) (x y : List ℕ)
      → question_text q ++ x ≡ snapshot_text_in s.0 s.1 ++ y → ⊥
  pub response_snapshot : (r : ResponseValue) (s : Snapshot) (x y : List ℕ)
      → response_text r ++ x ≡ snapshot_text_in s.0 s.1 ++ y → ⊥
