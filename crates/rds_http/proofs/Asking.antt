-- What is asked or answered by a tag.
use Rattle.std.proofs.Common.{◌≡◌, ◌∙◌, ◌++◌, ℕ, true, false, List, [], ◌∷◌, Option, Some, Result, Ok, Err, IfSome, ap, bytes_eq, drop, inl, inr, length, subst, sym, take}
use Rattle.std.specs.Global.{Vec}
use Rattle.rds_codec.specs.Decoding.{IsTextOf}
use Rattle.rds_fields.specs.Tags.{tag_text}
use Rattle.rds_names.specs.declared.fault.Fault.{Fault}
use Rattle.rds_questions.specs.Questions.{QuestionValue, question_kind, question_of, question_text}
use Rattle.rds_questions.specs.Responding.{RespondGives}
use Rattle.rds_questions.specs.Tags.{IsTagOf}
use Rattle.rds_questions.specs.declared.tags.Tag.{Tag}
use Rattle.rds_state.specs.Fits.{ReplicaValue}
use Rattle.http_server.specs.declared.response.Response.{Response}
use Rattle.rds_http.specs.Changes.{AnswersAs, AnswersPull, AnswersPush, AnswersTexts, IsOfAsked, IsOfOther, MayAnswerAs, asked_as}
use Rattle.rds_http.proofs.Texts.{is_behind, none_behind}

-- bytes begin with the tag of what is asked now
pub asked_now : (bytes front rest question : List ℕ) (held before : ReplicaValue) (tag : Tag)
    → bytes_eq (take (length front) bytes) front ≡ true → rest ≡ drop (length front) bytes → front ≡ tag_text tag
    → IsTagOf held tag → question ≡ question_text (question_of before) → before ≡ held → IsOfAsked bytes question rest
asked_now bytes front rest question held before tag begins is text of asked same = record {
  tag = tag;
  holds = is_behind bytes front rest begins is ∙ ap (λ f. f ++ rest) text;
  has_tag = record { held = held; is_tag = of; text = asked ∙ ap (λ v. question_text (question_of v)) same };
}

-- they don't
pub asked_otherwise : (bytes front : List ℕ) (held : ReplicaValue) (tag : Tag)
    → bytes_eq (take (length front) bytes) front ≡ false → front ≡ tag_text tag → IsTagOf held tag → IsOfOther bytes held
asked_otherwise bytes front held tag other text of =
    (tag, of, λ rest is. none_behind bytes front rest other (is ∙ ap (λ f. f ++ rest) (sym text)))

-- what is responded to another replica
pub answers_as : (number : ℕ) (question : List ℕ) (held : ReplicaValue) (asked : QuestionValue) (result : Result (Vec ℕ) Fault)
    → IsTextOf question_kind question asked → RespondGives (asked_as number asked) held result
    → MayAnswerAs number question held result
answers_as number question held asked (Ok bytes) is gives = record { asked = asked; is_question = is; responds = gives }
answers_as number question held asked (Err e) is gives =
    inr (record { asked = asked; is_question = is; responds = gives })

-- the same of a question that was read
pub answers_read : (number : ℕ) (question : List ℕ) (held was : ReplicaValue) (asked view : QuestionValue)
    (result : Result (Vec ℕ) Fault) → IsTextOf question_kind question asked → view ≡ asked → was ≡ held
    → RespondGives (asked_as number view) was result → MayAnswerAs number question held result
answers_read number question held was asked view result is read same gives =
    answers_as number question held asked result is
    (subst (λ q. RespondGives (asked_as number q) held result) read
    (subst (λ v. RespondGives (asked_as number view) v result) same gives))

-- what holds of what is there
pub at_some : {T : Type 0} (o : Option T) (x : T) (P : T → Type 0) → o ≡ Some x → IfSome o P → P x
at_some o x P is holds = subst (λ r. IfSome r P) is holds

-- the body of a push is taken or refused
pub takes_tagged : (body question passed answer : List ℕ) (before was after : ReplicaValue) (response : Response)
    → IsOfAsked body question answer → passed ≡ question → was ≡ before → AnswersTexts passed answer was after response
    → AnswersPush body before after response
takes_tagged body question passed answer before was after response asked is same answers = inl (record {
  question = question;
  answer = answer;
  asked = asked;
  answers = subst (λ v. AnswersTexts question answer v after response) same
      (subst (λ q. AnswersTexts q answer was after response) is answers);
})

-- the body of a pull is answered or refused
pub answers_tagged : (body question passed rest : List ℕ) (number : ℕ) (held was : ReplicaValue) (response : Response)
    → IsOfAsked body question rest → rest ≡ number ∷ [] → passed ≡ question → was ≡ held
    → AnswersAs number passed was response → AnswersPull body held response
answers_tagged body question passed rest number held was response asked lone is same answers = inl (record {
  question = question;
  number = number;
  asked = subst (λ r. IsOfAsked body question r) lone asked;
  answers = subst (λ v. AnswersAs number question v response) same
      (subst (λ q. AnswersAs number q was response) is answers);
})
