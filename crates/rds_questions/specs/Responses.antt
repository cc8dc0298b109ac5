-- A response: who answers, its tag, and the answer. Its text, how it is read, and which responses have one.
use Rattle.std.specs.Prelude.{ℕ, List, ◌++◌, ◌==◌, length, max, codes, refl, if◌then◌else◌}
use Rattle.std.specs.Coded.{Coded, code_by, coded×}
use Rattle.rds_bytes.specs.Reading.{Reader, then_at, pair_at, made_at}
use Rattle.rds_codec.specs.AnswerTexts.{IsAnswerOf}
use Rattle.rds_codec.specs.AnswerValues.{AnswerValue, coded_answer}
use Rattle.rds_codec.specs.FormatTexts.{answer_at_in, answer_text_in}
use Rattle.rds_codec.specs.HelloTexts.{IsHello, hello_at, hello_text}
use Rattle.rds_codec.specs.Kinds.{Kind}
use Rattle.rds_codec.specs.declared.formats.Format.{Format}
use Rattle.rds_codec.specs.declared.formats.Format.TheVariants.{One, Two}
use Rattle.rds_codec.specs.declared.hellos.Hello.{Hello}
use Rattle.rds_questions.specs.Questions.{coded_hello, front_at}
use Rattle.rds_questions.specs.Tags.{IsTag, coded_tag, tag_at, tag_bytes}
use Rattle.rds_questions.specs.declared.tags.Tag.{Tag}

-- who answers, by the version in whose format the answer is, and its tag
pub record ResponseValue : Type 0 where
  pub hello : Hello
  pub tag : Tag
  pub answer : AnswerValue

abbrev pub coded_response : Coded ResponseValue
coded_response =
    code_by (Hello × (Tag × AnswerValue)) (coded× coded_hello (coded× coded_tag coded_answer))
    (λ r. (r.hello, (r.tag, r.answer))) (λ p. record { hello = p.0; tag = p.1.0; answer = p.1.1 }) (λ _. refl)

-- the format of a version: 1 is that of format 1, and any other asks for format 2
abbrev pub format_said : ℕ → Format
format_said version = if version == 1 then One else Two

-- of the replicas of the longer of two rosters: of those that asked there were so many
abbrev pub replicas_with : ℕ → Hello → ℕ
replicas_with askers h = max askers (length h.roster.names)

-- ---- its text

-- the four bytes in front
abbrev pub response_front : List ℕ
response_front = codes "RDSC"

-- who answers: the hello and the tag
abbrev pub answerer_text : Hello → Tag → List ℕ
answerer_text hello tag = hello_text hello ++ tag_bytes tag

unfoldable pub response_text : ResponseValue → List ℕ
response_text r =
    response_front ++ (answerer_text r.hello r.tag ++ answer_text_in (format_said r.hello.version) r.answer)

abbrev pub Answerer : Type 0
Answerer = Hello × Tag

abbrev pub answerer_at : Reader Answerer
answerer_at = pair_at hello_at tag_at

-- who answers, and an answer in the format of its version
abbrev pub answered_at : ℕ → Reader (Answerer × AnswerValue)
answered_at askers =
    then_at answerer_at (λ p. answer_at_in (format_said p.0.version) (replicas_with askers p.0))

abbrev pub response_by : List ℕ × (Answerer × AnswerValue) → ResponseValue
response_by p = record { hello = p.1.0.0; tag = p.1.0.1; answer = p.1.1 }

-- to a question whose roster has so many replicas
unfoldable pub response_at : ℕ → Reader ResponseValue
response_at askers = made_at response_by (pair_at (front_at response_front) (answered_at askers))

-- the hello and the tag are such, and the answer is of the replicas of the longer roster
pub record IsResponse (askers : ℕ) (r : ResponseValue) : Type 0 where
  pub hello : IsHello r.hello
  pub tag : IsTag r.tag
  pub answer : IsAnswerOf (replicas_with askers r.hello) r.answer

abbrev pub response_kind : ℕ → Kind ResponseValue
response_kind askers = record { is_value = IsResponse askers; text = response_text }
