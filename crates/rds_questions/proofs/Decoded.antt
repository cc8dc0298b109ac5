-- Decoding a question: who asks is read, and all that follows is decoded as a brief.
use Rattle.std.proofs.Common.{◌≡◌, ℕ, ◌+◌, ◌<◌, ◌≤◌, ◌⊎◌, inl, inr, List, [], ◌++◌, length, Result, Ok, Err, refl, sym, ap, subst, ◌∙◌, append_assoc, length-append, arith}
use Rattle.std.proofs.lemmas.List.{append-nil}
use Rattle.rds_names.specs.declared.fault.Fault.{Fault}
use Rattle.rds_names.specs.declared.fault.Fault.TheVariants.{Memory, Cut, Bad, Extra, TooLong}
use Rattle.rds_delta.specs.Digested.{DigestValue}
use Rattle.rds_bytes.specs.Reading.{Fails}
use Rattle.rds_bytes.proofs.Format.{IsBytes, err_is, failed, ok_is}
use Rattle.rds_briefs.specs.Briefs.{brief_kind, brief_text}
use Rattle.rds_briefs.proofs.Apart.{briefs_apart}
use Rattle.rds_codec.specs.Decoding.{GivesOrMemory, BeginsWithText, Decodes, IsTextOf}
use Rattle.rds_codec.specs.DigestTexts.{IsDigestOf}
use Rattle.rds_codec.specs.HelloTexts.{IsHello, hello_text}
use Rattle.rds_codec.specs.Kinds.{Kind}
use Rattle.rds_codec.specs.Laws.{HasText, StandApart}
use Rattle.rds_codec.specs.declared.hellos.Hello.{Hello}
use Rattle.rds_codec.specs.declared.limits.TheConstants.{LIMIT}
use Rattle.rds_codec.proofs.Whole.{fails_is}
use Rattle.rds_questions.specs.Questions.{IsQuestion, QuestionValue, askers_of, asker_at, question_front, question_kind, question_text}
use Rattle.rds_questions.proofs.Readers.{asker_reader, asker_text}

-- a fault, whatever failed
fault_as : {A B : Type 0} (e f : Fault) → failed {A = A} e ≡ Err f → failed {A = B} e ≡ Err f
fault_as {A} {B} e f h = ap (λ (x : Fault). failed {A = B} x) (err_is {A = A} e f h)

-- ---- its text is that of who asks, and then the brief

pub text_parts : (q : QuestionValue) → question_text q ≡ asker_text q.hello ++ brief_text q.digest
unfolding question_text
text_parts q = sym (append_assoc question_front (hello_text q.hello) (brief_text q.digest))

text_behind : (q : QuestionValue) (rest : List ℕ) → question_text q ++ rest ≡ asker_text q.hello ++ (brief_text q.digest ++ rest)
text_behind q rest = ap (λ (t : List ℕ). t ++ rest) (text_parts q) ∙ append_assoc (asker_text q.hello) (brief_text q.digest) rest

text_length : (q : QuestionValue) → length (question_text q) ≡ length (asker_text q.hello) + length (brief_text q.digest)
text_length q = ap length (text_parts q) ∙ length-append (asker_text q.hello) (brief_text q.digest)

pub brief_within : (q : QuestionValue) → length (question_text q) ≤ LIMIT → length (brief_text q.digest) ≤ LIMIT
brief_within q within = (let len = text_length q in omega (arith, len, within))

-- who asks is read again
pub asker_again : (q : QuestionValue) (rest : List ℕ) → IsQuestion q → length (question_text q) ≤ LIMIT → asker_at (question_text q ++ rest) ≡ Ok (q.hello, brief_text q.digest ++ rest)
asker_again q rest is within =
    let len = text_length q in
    ap asker_at (text_behind q rest) ∙ asker_reader.again q.hello (brief_text q.digest ++ rest) is.hello (omega (arith, len, within))

-- ---- no text begins another

abbrev briefs_of : QuestionValue → Kind DigestValue
briefs_of q = brief_kind (askers_of q)

pub questions_apart : StandApart question_kind
questions_apart q r x y one other e =
    let both = sym (asker_again q x one.is_value one.within) ∙ (ap asker_at e ∙ asker_again r y other.is_value other.within) in
    let read = ok_is (q.hello, brief_text q.digest ++ x) (r.hello, brief_text r.digest ++ y) both in
    let hellos : q.hello ≡ r.hello = ap (λ (p : Hello × List ℕ). p.0) read in
    let left : HasText (briefs_of q) q.digest = record { is_value = one.is_value.digest; within = brief_within q one.within } in
    let right : HasText (briefs_of q) r.digest = record {
      is_value = subst (λ (h : Hello). IsDigestOf (length h.roster.names) r.digest) (sym hellos) other.is_value.digest;
      within = brief_within r other.within;
    } in
    let digests = briefs_apart (askers_of q) q.digest r.digest x y left right (ap (λ (p : Hello × List ℕ). p.1) read) in
    (λ i. record { hello = hellos i; digest = digests.0 i }, digests.1)

-- ---- what is decoded

module _ (bytes : List ℕ) (fits : IsBytes bytes) (within : length bytes ≤ LIMIT) where
  not_long : {A : Type 0} → LIMIT < length bytes → A
  not_long long = absurd (let none : ⊥ = omega (arith, long, within) in none)

  short_text : (q : QuestionValue) (rest : List ℕ) → bytes ≡ question_text q ++ rest → length (question_text q) ≤ LIMIT
  short_text q rest e = (let len = ap length e ∙ length-append (question_text q) rest in omega (arith, len, within))

  lost : Decodes question_kind bytes (Err Memory)
  lost = record {
    value = tt;
    found = λ w le h. inr refl;
    long = λ lt. not_long lt;
    long_only = λ h. absurd cc;
    extra = λ le h. inr refl;
    extra_only = λ h. absurd cc;
    other = inl refl;
  }

  -- who asks isn't read
  module _ (e : Fault) (refused : asker_at bytes ≡ Err e) where
    no_text : (q : QuestionValue) (rest : List ℕ) → IsQuestion q → bytes ≡ question_text q ++ rest → ⊥
    no_text q rest is same =
        let read = ap asker_at same ∙ asker_again q rest is (short_text q rest same) in
        (let bad : ◌≡◌ {A = Result (Hello × List ℕ) Fault} (Err e) (Ok (q.hello, brief_text q.digest ++ rest)) = sym refused ∙ read in cc)

    cut_or_bad : (e ≡ Cut) ⊎ (e ≡ Bad)
    cut_or_bad = asker_reader.faults bytes e fits refused

    no_asker : Decodes question_kind bytes (Err e)
    no_asker = record {
      value = tt;
      found = λ w le h. absurd (no_text w [] h.is_value (h.spelled ∙ sym (append-nil (question_text w))));
      long = λ lt. not_long lt;
      long_only = λ h. absurd (elim cut_or_bad [ inl x ↦ (let bad : Cut ≡ TooLong = sym x ∙ err_is {A = QuestionValue} e TooLong h in cc) | inr y ↦ (let bad : Bad ≡ TooLong = sym y ∙ err_is {A = QuestionValue} e TooLong h in cc) ]);
      extra = λ le h. absurd (no_text h.value h.rest h.is_value h.spelled);
      extra_only = λ h. absurd (elim cut_or_bad [ inl x ↦ (let bad : Cut ≡ Extra = sym x ∙ err_is {A = QuestionValue} e Extra h in cc) | inr y ↦ (let bad : Bad ≡ Extra = sym y ∙ err_is {A = QuestionValue} e Extra h in cc) ]);
      other = inr (inr (inr cut_or_bad));
    }

  pub asker_refused : (e : Fault) → Fails e (asker_at bytes) → Decodes question_kind bytes (Err e)
  asker_refused e h = elim (fails_is e (asker_at bytes) h) [
    | inl m ↦ subst (λ (f : Fault). Decodes question_kind bytes (Err f)) (sym m) lost
    | inr is ↦ no_asker e is
  ]

  -- who asks is read, and the rest is decoded as a brief
  module _ (h : Hello) (rest : List ℕ) (read : asker_at bytes ≡ Ok (h, rest)) (replicas : ℕ) (count : replicas ≡ length h.roster.names) where
    abbrev briefs : Kind DigestValue
    briefs = brief_kind replicas

    pub behind : bytes ≡ asker_text h ++ rest
    behind = (asker_reader.takes bytes (h, rest) fits read).0.parts

    is_hello : IsHello h
    is_hello = (asker_reader.takes bytes (h, rest) fits read).1

    short : length rest ≤ LIMIT
    short = (let len = ap length behind ∙ length-append (asker_text h) rest in omega (arith, len, within))

    record Same (q : QuestionValue) (more : List ℕ) : Type 0 where
      hello : h ≡ q.hello
      rest_is : rest ≡ brief_text q.digest ++ more
      digest : briefs.is_value q.digest

    same : (q : QuestionValue) (more : List ℕ) → IsQuestion q → bytes ≡ question_text q ++ more → Same q more
    same q more is e =
        let both = sym read ∙ (ap asker_at e ∙ asker_again q more is (short_text q more e)) in
        let parts = ok_is (h, rest) (q.hello, brief_text q.digest ++ more) both in
        let hellos : h ≡ q.hello = ap (λ (p : Hello × List ℕ). p.0) parts in
        record {
          hello = hellos;
          rest_is = ap (λ (p : Hello × List ℕ). p.1) parts;
          digest = subst (λ n. IsDigestOf n q.digest) (sym (count ∙ ap (λ (x : Hello). length x.roster.names) hellos)) is.digest;
        }

    same_text : (q : QuestionValue) → IsTextOf question_kind bytes q → Same q []
    same_text q t = same q [] t.is_value (t.spelled ∙ sym (append-nil (question_text q)))

    brief_of : (q : QuestionValue) → Same q [] → IsTextOf briefs rest q.digest
    brief_of q s = record { is_value = s.digest; spelled = s.rest_is ∙ append-nil (brief_text q.digest) }

    brief_more : BeginsWithText question_kind bytes → BeginsWithText briefs rest
    brief_more b =
        let s = same b.value b.rest b.is_value b.spelled in
        record { value = b.value.digest; rest = b.rest; is_value = s.digest; more = b.more; spelled = s.rest_is }

    abbrev with_hello : DigestValue → QuestionValue
    with_hello g = record { hello = h; digest = g }

    is_question : (g : DigestValue) → briefs.is_value g → IsQuestion (with_hello g)
    is_question g is = record { hello = is_hello; digest = subst (λ n. IsDigestOf n g) count is }

    more_of : BeginsWithText briefs rest → BeginsWithText question_kind bytes
    more_of b = record {
      value = with_hello b.value;
      rest = b.rest;
      is_value = is_question b.value b.is_value;
      more = b.more;
      spelled = behind ∙ (ap (λ (t : List ℕ). asker_text h ++ t) b.spelled ∙ sym (text_behind (with_hello b.value) b.rest));
    }

    pub decoded : (g : DigestValue) → Decodes briefs rest (Ok g) → Decodes question_kind bytes (Ok (with_hello g))
    decoded g d = record {
      value = (
        within,
        record {
          is_value = is_question g d.value.1.is_value;
          spelled = behind ∙ (ap (λ (t : List ℕ). asker_text h ++ t) d.value.1.spelled ∙ sym (text_parts (with_hello g)));
        },
      );
      found = λ q le t. (let s = same_text q t in elim (d.found q.digest short (brief_of q s)) [
        | inl one ↦ (let digests = ok_is g q.digest one in inl (λ i. Ok (record { hello = s.hello i; digest = digests i })))
        | inr none ↦ absurd cc
      ]);
      long = λ lt. not_long lt;
      long_only = λ e. absurd cc;
      extra = λ le b. absurd (elim (d.extra short (brief_more b)) [ inl none ↦ (let bad = none in cc) | inr none ↦ (let bad = none in cc) ]);
      extra_only = λ e. absurd cc;
      other = tt;
    }

    pub undecoded : (e : Fault) → Decodes briefs rest (Err e) → Decodes question_kind bytes (Err e)
    undecoded e d = record {
      value = tt;
      found = λ q le t. elim (d.found q.digest short (brief_of q (same_text q t))) [
        | inl none ↦ absurd cc
        | inr lost ↦ inr (fault_as {A = DigestValue} {B = QuestionValue} e Memory lost)
      ];
      long = λ lt. not_long lt;
      long_only = λ is. (let long = d.long_only (fault_as {A = QuestionValue} {B = DigestValue} e TooLong is) in absurd (let none : ⊥ = omega (arith, long, short) in none));
      extra = λ le b. elim (d.extra short (brief_more b)) [
        | inl is ↦ inl (fault_as {A = DigestValue} {B = QuestionValue} e Extra is)
        | inr lost ↦ inr (fault_as {A = DigestValue} {B = QuestionValue} e Memory lost)
      ];
      extra_only = λ is. (within, more_of ((d.extra_only (fault_as {A = QuestionValue} {B = DigestValue} e Extra is)).1));
      other = d.other;
    }
