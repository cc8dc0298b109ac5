-- What a replica responds to a question.
use Rattle.std.specs.Prelude.{◌≡◌, ◌<◌, ◌≤◌, ◌⊎◌, ℕ, List, length, Result, Ok, Err}
use Rattle.std.specs.Global.{Vec}
use Rattle.rds_briefs.specs.Briefs.{brief_text}
use Rattle.rds_names.specs.declared.fault.Fault.{Fault}
use Rattle.rds_names.specs.declared.fault.Fault.TheVariants.{Memory, TooLong}
use Rattle.rds_state.specs.Fits.{ReplicaValue}
use Rattle.rds_codec.specs.Exchanged.{IsAnswerTo}
use Rattle.rds_codec.specs.HelloTexts.{version_of}
use Rattle.rds_codec.specs.declared.hellos.Hello.{Hello}
use Rattle.rds_codec.specs.declared.limits.TheConstants.{LIMIT}
use Rattle.rds_questions.specs.Greeting.{GreetGives}
use Rattle.rds_questions.specs.Questions.{QuestionValue, question_of}
use Rattle.rds_questions.specs.Responses.{ResponseValue, format_said, response_text}
use Rattle.rds_questions.specs.Tags.{IsTagOf}

-- who answers, in the format that the question asks for
abbrev pub hello_to : QuestionValue → ReplicaValue → Hello
hello_to q v = record { version = version_of (format_said q.hello.version); roster = v.roster; own = v.own }

-- the replica's hello and tag, and for the one that asked the least delta and its certificate. There is one such
-- response
pub record IsResponseTo (q : QuestionValue) (v : ReplicaValue) (r : ResponseValue) : Type 0 where
  pub hello : r.hello ≡ hello_to q v
  pub tag : IsTagOf v r.tag
  pub answers : IsAnswerTo q.digest q.hello.own v.state r.answer

-- the bytes are the text of that response, within the limit
pub record IsRespondedBy (q : QuestionValue) (v : ReplicaValue) (bytes : List ℕ) : Type 0 where
  pub response : ResponseValue
  pub responds : IsResponseTo q v response
  pub text : bytes ≡ response_text response
  pub within : length bytes ≤ LIMIT

-- the text of that response is above the limit
pub record IsLongText (q : QuestionValue) (v : ReplicaValue) : Type 0 where
  pub response : ResponseValue
  pub responds : IsResponseTo q v response
  pub long : LIMIT < length (response_text response)

-- the replica's own brief is above the limit, so that it has no tag
abbrev pub HasLongBrief : ReplicaValue → Type 0
HasLongBrief v = LIMIT < length (brief_text (question_of v).digest)

abbrev pub IsLongResponse : QuestionValue → ReplicaValue → Type 0
IsLongResponse q v = IsLongText q v ⊎ HasLongBrief v

-- the text of the response, or why there is none: first what the greeting gives, then too long a text or Memory
abbrev pub RespondGives : QuestionValue → ReplicaValue → Result (Vec ℕ) Fault → Type 0
RespondGives q v (Ok bytes) =
    GreetGives {T = Unit {0}} v.roster v.own q.hello (Ok tt) × IsRespondedBy q v bytes.items
RespondGives q v (Err Memory) = GreetGives {T = Unit {0}} v.roster v.own q.hello (Ok tt)
RespondGives q v (Err TooLong) = GreetGives {T = Unit {0}} v.roster v.own q.hello (Ok tt) × IsLongResponse q v
RespondGives q v (Err f) = GreetGives {T = Unit {0}} v.roster v.own q.hello (Err f)
