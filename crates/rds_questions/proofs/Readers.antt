-- Readers of parts, put together, are readers of the whole.
use Rattle.std.proofs.Common.{◌≡◌, ℕ, ◌≤◌, true, List, ◌++◌, length, Result, Ok, Err, inl, inr, refl, sym, ap, subst, ◌∙◌, append_assoc, length-append, arith}
use Rattle.std.specs.Str.{bytes_eq}
use Rattle.std.proofs.lemmas.Slice.Eq.{bytes_eq-Decides}
use Rattle.rds_names.specs.declared.fault.Fault.{Fault}
use Rattle.rds_bytes.specs.Reading.{◌>>=◌, Reader, then_at, made_at, bytes_at}
use Rattle.rds_bytes.proofs.Format.{IsBytes, Takes, Takes-then, CutOrBad, bind_ok, bind_err, done, ok_is, known_format, when_format}
use Rattle.rds_codec.specs.AnswerValues.{AnswerValue}
use Rattle.rds_codec.specs.FormatTexts.{answer_at_in, answer_kind_in, answer_text_in}
use Rattle.rds_codec.specs.HelloTexts.{IsHello, hello_at, hello_kind, hello_text}
use Rattle.rds_codec.specs.Kinds.{Kind}
use Rattle.rds_codec.specs.declared.hellos.Hello.{Hello}
use Rattle.rds_codec.specs.declared.limits.TheConstants.{LIMIT}
use Rattle.rds_codec.proofs.HelloFormats.{hello_reader}
use Rattle.rds_codec.proofs.InFormats.{answer_in_reader}
use Rattle.rds_codec.proofs.Whole.{IsReaderOf, reader_of}
use Rattle.rds_questions.specs.Questions.{asker_at, asker_by, front_at, question_front}
use Rattle.rds_questions.specs.Responses.{Answerer, ResponseValue, IsResponse, answered_at, answerer_at, answerer_text, format_said, replicas_with, response_at, response_by, response_front, response_kind, response_text}
use Rattle.rds_questions.specs.Tags.{tag_at, tag_kind}
use Rattle.rds_questions.proofs.TagTexts.{tag_reader}

-- ---- a part, and then one that may depend on it

abbrev then_kind : {A B : Type 0} → Kind A → (A → Kind B) → Kind (A × B)
then_kind F G = record { is_value = λ v. F.is_value v.0 × (G v.0).is_value v.1; text = λ v. F.text v.0 ++ (G v.0).text v.1 }

module _ {A B : Type 0} (F : Kind A) (G : A → Kind B) (f : Reader A) (g : A → Reader B) (p : IsReaderOf F f) (q : (a : A) → IsReaderOf (G a) (g a)) where
  abbrev after : A × List ℕ → Result ((A × B) × List ℕ) Fault
  after a = g a.0 a.1 >>= λ b. Ok ((a.0, b.0), b.1)

  abbrev Taken : List ℕ → (A × B) × List ℕ → Type 0
  Taken bytes y = Takes bytes (F.text y.0.0 ++ (G y.0.0).text y.0.1) y.1 × (F.is_value y.0.0 × (G y.0.0).is_value y.0.1)

  then_takes : (bytes : List ℕ) (x : (A × B) × List ℕ) → IsBytes bytes → then_at f g bytes ≡ Ok x → Taken bytes x
  then_takes bytes x fits e =
      let a = bind_ok (f bytes) after x e in
      let b = bind_ok (g a.0.0 a.0.1) (λ b. Ok ((a.0.0, b.0), b.1)) x a.2 in
      let first = p.takes bytes a.0 fits a.1 in
      let second = (q a.0.0).takes a.0.1 b.0 first.0.rest_fits b.1 in
      subst (Taken bytes) (ok_is ((a.0.0, b.0.0), b.0.1) x b.2)
      (Takes-then bytes (F.text a.0.0) a.0.1 ((G a.0.0).text b.0.0) b.0.1 first.0 second.0, (first.1, second.1))

  then_again : (v : A × B) (rest : List ℕ) → F.is_value v.0 × (G v.0).is_value v.1 → length (F.text v.0 ++ (G v.0).text v.1) ≤ LIMIT
      → then_at f g ((F.text v.0 ++ (G v.0).text v.1) ++ rest) ≡ Ok (v, rest)
  then_again v rest is le =
      let len = length-append (F.text v.0) ((G v.0).text v.1) in
      let second = (q v.0).again v.1 rest is.1 (omega (arith, len, le)) in
      ap (then_at f g) (append_assoc (F.text v.0) ((G v.0).text v.1) rest)
      ∙ rw (p.again v.0 ((G v.0).text v.1 ++ rest) is.0 (omega (arith, len, le)), second) refl

  then_faults : (bytes : List ℕ) (e : Fault) → IsBytes bytes → then_at f g bytes ≡ Err e → CutOrBad e
  then_faults bytes e fits h =
      elim (bind_err (f bytes) after e h) [
        | inl first ↦ p.faults bytes e fits first
        | inr a ↦
            let read = p.takes bytes a.0 fits a.1 in
            elim (bind_err (g a.0.0 a.0.1) (λ b. Ok ((a.0.0, b.0), b.1)) e a.2) [
              | inl second ↦ (q a.0.0).faults a.0.1 e read.0.rest_fits second
              | inr b ↦ absurd (let bad : done ((a.0.0, b.0.0), b.0.1) ≡ Err e = b.2 in cc)
            ]
      ]

  then_reader : IsReaderOf (then_kind F G) (then_at f g)
  then_reader = record { takes = then_takes; again = then_again; faults = then_faults }

-- ---- a part as another value

module _ {A B : Type 0} (make : A → B) (unmake : B → A) (F : Kind A) (G : Kind B) (f : Reader A) (spelled : (b : B) → G.text b ≡ F.text (unmake b))
    (there : (b : B) → G.is_value b → F.is_value (unmake b) × (make (unmake b) ≡ b)) (back : (a : A) → F.is_value a → G.is_value (make a) × (unmake (make a) ≡ a)) (p : IsReaderOf F f) where
  made_takes : (bytes : List ℕ) (x : B × List ℕ) → IsBytes bytes → made_at make f bytes ≡ Ok x → Takes bytes (G.text x.0) x.1 × G.is_value x.0
  made_takes bytes x fits e =
      let a = bind_ok (f bytes) (λ a. Ok (make a.0, a.1)) x e in
      let read = p.takes bytes a.0 fits a.1 in
      let is = back a.0.0 read.1 in
      subst (λ (y : B × List ℕ). Takes bytes (G.text y.0) y.1 × G.is_value y.0) (ok_is (make a.0.0, a.0.1) x a.2)
      (subst (λ (t : List ℕ). Takes bytes t a.0.1) (ap F.text (sym is.1) ∙ sym (spelled (make a.0.0))) read.0, is.0)

  made_again : (b : B) (rest : List ℕ) → G.is_value b → length (G.text b) ≤ LIMIT → made_at make f (G.text b ++ rest) ≡ Ok (b, rest)
  made_again b rest fits le =
      let is = there b fits in
      let same = spelled b in
      let got : f (G.text b ++ rest) ≡ Ok (unmake b, rest) =
      ap (λ (t : List ℕ). f (t ++ rest)) same ∙ p.again (unmake b) rest is.0 (subst (λ (t : List ℕ). length t ≤ LIMIT) same le) in
      rw got (ap (λ (v : B). Ok (v, rest)) is.1)

  made_faults : (bytes : List ℕ) (e : Fault) → IsBytes bytes → made_at make f bytes ≡ Err e → CutOrBad e
  made_faults bytes e fits h =
      elim (bind_err (f bytes) (λ a. Ok (make a.0, a.1)) e h) [
        | inl first ↦ p.faults bytes e fits first
        | inr a ↦ absurd (let bad : done (make a.0.0, a.0.1) ≡ Err e = a.2 in cc)
      ]

  made_reader : IsReaderOf G (made_at make f)
  made_reader = record { takes = made_takes; again = made_again; faults = made_faults }

-- ---- the four bytes in front

module _ (front : List ℕ) where
  abbrev pub IsFront : List ℕ → Type 0
  IsFront t = (length t ≡ 4) × (bytes_eq front t ≡ true)

  abbrev pub front_kind : Kind (List ℕ)
  front_kind = record { is_value = IsFront; text = λ t. t }

  pub front_reader : IsReaderOf front_kind (front_at front)
  front_reader =
      reader_of front_kind (front_at front) IsFront (when_format (bytes_eq front) (bytes_at 4) (λ t. t) (λ t. length t ≡ 4) (known_format 4)) (λ t h. h) (λ t h le. h)

  pub is_front : (t : List ℕ) → IsFront t → front ≡ t
  is_front t h = (bytes_eq-Decides front t).0 h.1

-- ---- who asks

abbrev pub asker_text : Hello → List ℕ
asker_text h = question_front ++ hello_text h

abbrev pub asker_kind : Kind Hello
asker_kind = record { is_value = IsHello; text = asker_text }

abbrev asker_parts_kind : Kind (List ℕ × Hello)
asker_parts_kind = then_kind (front_kind question_front) (λ _. hello_kind)

asker_there : (h : Hello) → IsHello h → asker_parts_kind.is_value (question_front, h) × (asker_by (question_front, h) ≡ h)
asker_there h is = (((refl, refl), is), refl)

asker_back : (p : List ℕ × Hello) → asker_parts_kind.is_value p → IsHello (asker_by p) × ((question_front, asker_by p) ≡ p)
asker_back p h = (h.1, ap (λ (t : List ℕ). (t, p.1)) (is_front question_front p.0 h.0))

pub asker_reader : IsReaderOf asker_kind asker_at
unfolding asker_at
asker_reader =
    made_reader asker_by (λ h. (question_front, h)) asker_parts_kind asker_kind _ (λ h. refl) asker_there asker_back
    (then_reader (front_kind question_front) (λ _. hello_kind) (front_at question_front) (λ _. hello_at) (front_reader question_front) (λ _. hello_reader))

-- ---- a response

module _ (askers : ℕ) where
  abbrev Parts : Type 0
  Parts = List ℕ × (Answerer × AnswerValue)

  abbrev answerer_kind : Kind Answerer
  answerer_kind = then_kind hello_kind (λ _. tag_kind)

  abbrev answered_kind : Kind (Answerer × AnswerValue)
  answered_kind = then_kind answerer_kind (λ p. answer_kind_in (format_said p.0.version) (replicas_with askers p.0))

  abbrev response_parts : ResponseValue → Parts
  response_parts r = (response_front, ((r.hello, r.tag), r.answer))

  abbrev response_parts_kind : Kind Parts
  response_parts_kind = then_kind (front_kind response_front) (λ _. answered_kind)

  response_spelled : (r : ResponseValue) → response_text r ≡ response_front ++ (answerer_text r.hello r.tag ++ answer_text_in (format_said r.hello.version) r.answer)
  unfolding response_text
  response_spelled r = refl

  response_there : (r : ResponseValue) → IsResponse askers r → response_parts_kind.is_value (response_parts r) × (response_by (response_parts r) ≡ r)
  response_there r is = (((refl, refl), ((is.hello, is.tag), is.answer)), refl)

  response_back : (p : Parts) → response_parts_kind.is_value p → IsResponse askers (response_by p) × (response_parts (response_by p) ≡ p)
  response_back p h = (record { hello = h.1.0.0; tag = h.1.0.1; answer = h.1.1 }, ap (λ (t : List ℕ). (t, p.1)) (is_front response_front p.0 h.0))

  pub response_reader : IsReaderOf (response_kind askers) (response_at askers)
  unfolding response_at
  response_reader =
      made_reader response_by response_parts response_parts_kind (response_kind askers) _ response_spelled response_there response_back
      (then_reader (front_kind response_front) (λ _. answered_kind) (front_at response_front) (λ _. answered_at askers) (front_reader response_front)
      (λ _. then_reader answerer_kind (λ p. answer_kind_in (format_said p.0.version) (replicas_with askers p.0)) answerer_at (λ p. answer_at_in (format_said p.0.version) (replicas_with askers p.0))
      (then_reader hello_kind (λ _. tag_kind) hello_at (λ _. tag_at) hello_reader (λ _. tag_reader)) (λ p. answer_in_reader (format_said p.0.version) (replicas_with askers p.0))))
