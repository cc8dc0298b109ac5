-- What a response brings to the replica that asked.
use Rattle.std.specs.Prelude.{◌≡◌, ◌≢◌, ◌⊎◌, ◌≤◌, ℕ, List, length, refl, Result, Ok, Err}
use Rattle.std.specs.Coded.{Coded, code_by, coded×, coded_list}
use Rattle.rds_names.specs.Roster.{RosterValue, longer}
use Rattle.rds_names.specs.declared.fault.Fault.{Fault}
use Rattle.rds_names.specs.declared.fault.Fault.TheVariants.{Memory, WrongAsker, BadCertificate}
use Rattle.rds_state.specs.Fits.{coded_roster}
use Rattle.rds_state.specs.Value.{StateValue, coded_state}
use Rattle.rds_delta.specs.contracts.row.Row as row
use Rattle.rds_delta.specs.declared.row.Row.{Row}
use Rattle.rds_codec.specs.Decoding.{IsTextOf}
use Rattle.rds_codec.specs.Exchanged.{IsCertified, IsUncertified}
use Rattle.rds_codec.specs.declared.limits.TheConstants.{LIMIT}
use Rattle.rds_questions.specs.Greeting.{GreetGives}
use Rattle.rds_questions.specs.Questions.{QuestionValue, askers_of}
use Rattle.rds_questions.specs.Responses.{ResponseValue, response_kind}
use Rattle.rds_questions.specs.Tags.{coded_tag}
use Rattle.rds_questions.specs.declared.tags.Tag.{Tag}

-- the delta, the longer of the rosters of who asked and who answered, the delta's certificate, and the tag of who
-- answered
pub record ReceivedValue : Type 0 where
  pub delta : StateValue
  pub roster : RosterValue
  pub certificate : List Row
  pub tag : Tag

abbrev pub coded_received : Coded ReceivedValue
coded_received =
    code_by (StateValue × (RosterValue × (List Row × Tag)))
    (coded× coded_state (coded× coded_roster (coded× (coded_list row.the_row.coded) coded_tag)))
    (λ r. (r.delta, (r.roster, (r.certificate, r.tag))))
    (λ p. record { delta = p.0; roster = p.1.0; certificate = p.1.1.0; tag = p.1.1.1 }) (λ _. refl)

abbrev pub received_of : QuestionValue → ResponseValue → ReceivedValue
received_of q r = record {
  delta = r.answer.state;
  roster = longer q.hello.roster r.hello.roster;
  certificate = r.answer.certificate;
  tag = r.tag;
}

-- the two may talk
abbrev pub MayTalk : QuestionValue → ResponseValue → Type 0
MayTalk q r = GreetGives {T = Unit {0}} q.hello.roster q.hello.own r.hello (Ok tt)

-- when a response to a question is taken for one, and which fault is given: first what the greeting gives, then that it
-- is for another asker, then that its certificate isn't that of its delta against the question's digest
abbrev pub ReceiveGives : QuestionValue → ResponseValue → Result ReceivedValue Fault → Type 0
ReceiveGives q r (Ok x) =
    MayTalk q r × ((r.answer.asker ≡ q.hello.own) × (IsCertified q.digest r.answer × (x ≡ received_of q r)))
ReceiveGives q r (Err WrongAsker) = MayTalk q r × (r.answer.asker ≢ q.hello.own)
ReceiveGives q r (Err BadCertificate) = MayTalk q r × ((r.answer.asker ≡ q.hello.own) × IsUncertified q.digest r.answer)
ReceiveGives q r (Err f) = GreetGives {T = Unit {0}} q.hello.roster q.hello.own r.hello (Err f)

-- the same, unless memory ran out
abbrev pub ReceivesOrLost : QuestionValue → ResponseValue → Result ReceivedValue Fault → Type 0
ReceivesOrLost q r result = (result ≡ Err Memory) ⊎ ReceiveGives q r result

-- the same of what reading gives
abbrev pub ReceivesRead : QuestionValue → Result ResponseValue Fault → Result ReceivedValue Fault → Type 0
ReceivesRead q (Ok r) result = ReceivesOrLost q r result
ReceivesRead q (Err e) result = (result ≡ Err Memory) ⊎ (result ≡ Err e)

-- the bytes are the text of a response within the limit, which brings this
pub record IsReceivedFrom (q : QuestionValue) (bytes : List ℕ) (x : ReceivedValue) : Type 0 where
  pub response : ResponseValue
  pub within : length bytes ≤ LIMIT
  pub text : IsTextOf (response_kind (askers_of q)) bytes response
  pub gives : ReceiveGives q response (Ok x)
