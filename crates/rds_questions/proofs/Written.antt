-- Texts that are written, or are too long.
use Rattle.std.proofs.Common.{◌≡◌, ◌<◌, ◌≤◌, ℕ, Bool, true, false, cond, inl, inr, List, ◌++◌, length, Result, Ok, Err, refl, sym, ap, subst, ◌∙◌, length-append, arith}
use Rattle.std.specs.Prelude.{◌==◌, ◌≢◌}
use Rattle.std.specs.Global.{Vec}
use Rattle.rds_names.specs.Roster.{RosterValue, OneBegins}
use Rattle.rds_names.specs.declared.fault.Fault.{Fault}
use Rattle.rds_state.specs.Fits.{ReplicaValue}
use Rattle.rds_state.specs.Value.{StateValue}
use Rattle.rds_briefs.specs.Briefs.{brief_text}
use Rattle.rds_codec.specs.AnswerValues.{AnswerValue}
use Rattle.rds_codec.specs.Exchanged.{IsAnswerTo, IsLongAnswerIn, IsLost, IsReplyIn}
use Rattle.rds_codec.specs.FormatTexts.{answer_text_in}
use Rattle.rds_codec.specs.FormatWriting.{EncodesTabled, IsTabledUnwritten}
use Rattle.rds_codec.specs.HelloTexts.{hello_text, version_of}
use Rattle.rds_codec.specs.Writing.{Encodes, IsUnwritten}
use Rattle.rds_codec.specs.declared.formats.Format.{Format}
use Rattle.rds_codec.specs.declared.formats.Format.TheVariants.{One, Two}
use Rattle.rds_codec.specs.declared.limits.TheConstants.{LIMIT}
use Rattle.rds_questions.specs.Greeting.{GreetGives}
use Rattle.rds_questions.specs.Questions.{QuestionValue, question_front, question_text}
use Rattle.rds_questions.specs.Responding.{IsLongResponse, IsResponseTo, RespondGives, hello_to}
use Rattle.rds_questions.specs.Responses.{ResponseValue, answerer_text, format_said, response_front, response_text}
use Rattle.rds_questions.specs.Tags.{RefusesTag, tag_of}

-- ---- a question

module _ (q : QuestionValue) where
  question_parts : question_text q ≡ question_front ++ (hello_text q.hello ++ brief_text q.digest)
  unfolding question_text
  question_parts = refl

  question_longer : LIMIT < length (brief_text q.digest) → LIMIT < length (question_text q)
  question_longer long =
      let parts = ap length question_parts in
      let a = length-append question_front (hello_text q.hello ++ brief_text q.digest) in
      let b = length-append (hello_text q.hello) (brief_text q.digest) in
      omega (arith, long, parts, a, b)

  -- its brief is too long, or memory ran out
  pub question_lost : (e : Fault) → IsUnwritten (length (brief_text q.digest)) e → IsTabledUnwritten (length (question_text q)) e
  question_lost e h = elim h [ inl m ↦ inl m.0 | inr l ↦ inr (l.0, question_longer l.1) ]

  parts_written : (text : List ℕ) → text ≡ question_text q → (r : Result (Vec ℕ) Fault) → Encodes text r → EncodesTabled (question_text q) r
  parts_written text same (Ok v) h = (h.0 ∙ same, subst (λ (t : List ℕ). length t ≤ LIMIT) same h.1)
  parts_written text same (Err e) h = elim h [ inl m ↦ inl m.0 | inr l ↦ inr (l.0, subst (λ (t : List ℕ). LIMIT < length t) same l.1) ]

  pub question_written : (hello brief : List ℕ) → hello ≡ hello_text q.hello → brief ≡ brief_text q.digest → (r : Result (Vec ℕ) Fault) → Encodes (question_front ++ (hello ++ brief)) r
      → EncodesTabled (question_text q) r
  question_written hello brief a b r h = parts_written (question_front ++ (hello ++ brief)) ((λ i. question_front ++ (a i ++ b i)) ∙ sym question_parts) r h

-- ---- a response

-- the version that is answered in is that of the format that is asked for
format_again : (n : ℕ) → format_said (version_of (format_said n)) ≡ format_said n
format_again n = by (n == 1)
  where
    by : (b : Bool) → format_said (version_of (cond b One Two)) ≡ cond b One Two
    by true = refl
    by false = refl

module _ (q : QuestionValue) (v : ReplicaValue) (format : Format) (held : StateValue) (is_format : format ≡ format_said q.hello.version) (is_held : held ≡ v.state)
    (greeted : GreetGives {T = Unit {0}} v.roster v.own q.hello (Ok tt)) where
  abbrev whole : AnswerValue → ResponseValue
  whole a = record { hello = hello_to q v; tag = tag_of v; answer = a }

  abbrev answerer : List ℕ
  answerer = answerer_text (hello_to q v) (tag_of v)

  responds_to : (a : AnswerValue) → IsAnswerTo q.digest q.hello.own held a → IsResponseTo q v (whole a)
  responds_to a is = record { hello = refl; tag = record { hash = refl; mark = refl }; answers = subst (λ (w : StateValue). IsAnswerTo q.digest q.hello.own w a) is_held is }

  whole_parts : (a : AnswerValue) → response_text (whole a) ≡ response_front ++ (answerer ++ answer_text_in format a)
  unfolding response_text
  whole_parts a = ap (λ (f : Format). response_front ++ (answerer ++ answer_text_in f a)) (format_again q.hello.version ∙ sym is_format)

  longer_answer : (a : AnswerValue) → LIMIT < length (answer_text_in format a) → LIMIT < length (response_text (whole a))
  longer_answer a long =
      let parts = ap length (whole_parts a) in
      let x = length-append response_front (answerer ++ answer_text_in format a) in
      let y = length-append answerer (answer_text_in format a) in
      omega (arith, long, parts, x, y)

  -- the answer is too long, or memory ran out
  pub answer_lost : (e : Fault) → IsLost (IsLongAnswerIn format q.digest q.hello.own held) e → RespondGives q v (Err e)
  answer_lost e h = elim h [
    | inl m ↦ subst (λ (f : Fault). RespondGives q v (Err f)) (sym m) greeted
    | inr l ↦
        let is : IsLongResponse q v = inl (record { response = whole l.1.value; responds = responds_to l.1.value l.1.answers; long = longer_answer l.1.value l.1.long }) in
        subst (λ (f : Fault). RespondGives q v (Err f)) (sym l.0) (greeted, is)
  ]

  module _ (a : AnswerValue) (is : IsAnswerTo q.digest q.hello.own held a) where
    of_whole : (r : Result (Vec ℕ) Fault) → Encodes (response_text (whole a)) r → RespondGives q v r
    of_whole (Ok bytes) h = (greeted, record { response = whole a; responds = responds_to a is; text = h.0; within = subst (λ (t : List ℕ). length t ≤ LIMIT) (sym h.0) h.1 })
    of_whole (Err e) h = elim h [
      | inl m ↦ subst (λ (f : Fault). RespondGives q v (Err f)) (sym m.0) greeted
      | inr l ↦
          let long : IsLongResponse q v = inl (record { response = whole a; responds = responds_to a is; long = l.1 }) in
          subst (λ (f : Fault). RespondGives q v (Err f)) (sym l.0) (greeted, long)
    ]

  pub response_written : (who answered body : List ℕ) (components : ℕ) → who ≡ answerer → body ≡ answered → IsReplyIn format q.digest q.hello.own held answered components
      → (r : Result (Vec ℕ) Fault) → Encodes (response_front ++ (who ++ body)) r → RespondGives q v r
  response_written who answered body components same as_answered reply r h =
      let body_is : body ≡ answer_text_in format reply.value = as_answered ∙ reply.text in
      of_whole reply.value reply.answers r
      (subst (λ (t : List ℕ). Encodes t r) ((λ i. response_front ++ (same i ++ body_is i)) ∙ sym (whole_parts reply.value)) h)

-- there is no tag: the brief is too long, or memory ran out
pub tag_lost : (q : QuestionValue) (v : ReplicaValue) → GreetGives {T = Unit {0}} v.roster v.own q.hello (Ok tt) → (e : Fault) → RefusesTag v e → RespondGives q v (Err e)
tag_lost q v greeted e h = elim h [
  | inl m ↦ subst (λ (f : Fault). RespondGives q v (Err f)) (sym m) greeted
  | inr l ↦
      let long : IsLongResponse q v = inr l.1 in
      subst (λ (f : Fault). RespondGives q v (Err f)) (sym l.0) (greeted, long)
]

-- those who were greeted by what they hold
pub greeted_as : (roster : RosterValue) (own : ℕ) (v : ReplicaValue) (q : QuestionValue) → roster ≡ v.roster → own ≡ v.own → OneBegins roster q.hello.roster × (own ≢ q.hello.own)
    → GreetGives {T = Unit {0}} v.roster v.own q.hello (Ok tt)
greeted_as roster own v q a b h = (subst (λ (r : RosterValue). OneBegins r q.hello.roster) a h.0, subst (λ n. n ≢ q.hello.own) b h.1)
