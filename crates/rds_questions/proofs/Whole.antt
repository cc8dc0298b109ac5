-- Reading all of a text part by part.
use Rattle.std.proofs.Common.{◌≡◌, ℕ, ◌≤◌, Bool, true, false, cond, eqb, List, ◌++◌, length, Result, Ok, Err, refl, ap, subst, ◌∙◌, length-append, arith}
use Rattle.rds_names.specs.declared.fault.Fault.{Fault}
use Rattle.rds_names.specs.declared.fault.Fault.TheVariants.{Memory, Extra}
use Rattle.rds_bytes.specs.Reading.{◌>>=◌, Fails}
use Rattle.rds_bytes.proofs.Format.{IsBytes}
use Rattle.rds_codec.specs.Decoding.{all_of}
use Rattle.rds_codec.specs.FormatTexts.{answer_at_in}
use Rattle.rds_codec.specs.HelloTexts.{hello_at, hello_text}
use Rattle.rds_codec.specs.declared.formats.Format.{Format}
use Rattle.rds_codec.specs.declared.hellos.Hello.{Hello}
use Rattle.rds_codec.specs.declared.limits.TheConstants.{LIMIT}
use Rattle.rds_codec.proofs.HelloFormats.{hello_reader}
use Rattle.rds_questions.specs.Questions.{front_at}
use Rattle.rds_questions.specs.Responses.{Answerer, format_said, replicas_with, response_at, response_by, response_front}
use Rattle.rds_questions.specs.Tags.{tag_at, tag_bytes}
use Rattle.rds_questions.specs.declared.tags.Tag.{Tag}
use Rattle.rds_questions.proofs.Readers.{front_reader}
use Rattle.rds_questions.proofs.TagTexts.{tag_reader}

abbrev pub ended : {A : Type 0} → A × List ℕ → Result A Fault
ended x = cond (eqb (length x.1) 0) (Ok x.0) (Err Extra)

module _ {A B : Type 0} (front : List ℕ) (p : Answerer) (make : List ℕ × (Answerer × A) → B) where
  abbrev pub made : A → Result B Fault
  made a = Ok (make (front, (p, a)))

  at_end : (a : A) (rest : List ℕ) (b : Bool) → cond b (made a) (Err Extra) ≡ (cond b (Ok a) (Err Extra) >>= made)
  at_end a rest true = refl
  at_end a rest false = refl

  abbrev with_answerer : A × List ℕ → Result ((Answerer × A) × List ℕ) Fault
  with_answerer b = Ok ((p, b.0), b.1)

  abbrev with_front : (Answerer × A) × List ℕ → Result ((List ℕ × (Answerer × A)) × List ℕ) Fault
  with_front b = Ok ((front, b.0), b.1)

  abbrev whole : (List ℕ × (Answerer × A)) × List ℕ → Result (B × List ℕ) Fault
  whole a = Ok (make a.0, a.1)

  -- what is made of the last part is all of it where that is
  last_part : (d : Result (A × List ℕ) Fault) → ((((d >>= with_answerer) >>= with_front) >>= whole) >>= ended) ≡ ((d >>= ended) >>= made)
  last_part (Err e) = refl
  last_part (Ok x) = at_end x.0 x.1 (eqb (length x.1) 0)

pub response_ends : (askers : ℕ) (bytes first second third : List ℕ) (h : Hello) (t : Tag) → front_at response_front bytes ≡ Ok (response_front, first) → hello_at first ≡ Ok (h, second) → tag_at second ≡ Ok (t, third)
    → all_of (response_at askers) bytes ≡ (all_of (answer_at_in (format_said h.version) (replicas_with askers h)) third >>= made response_front (h, t) response_by)
unfolding response_at
response_ends askers bytes first second third h t p q r =
    rw (p, q, r) (last_part response_front (h, t) response_by (answer_at_in (format_said h.version) (replicas_with askers h) third))

-- ---- a fault of the last part is that of the whole

pub fails_on : {A B : Type 0} (e : Fault) (r : Result A Fault) (f : A → Result B Fault) (s : Result B Fault) → s ≡ (r >>= f) → Fails e r → Fails e s
fails_on Memory r f s same h = tt
fails_on _ r f s same h = same ∙ rw h refl

-- ---- what is left is within the limit

pub shorter : (bytes text rest : List ℕ) → bytes ≡ text ++ rest → length bytes ≤ LIMIT → length rest ≤ LIMIT
shorter bytes text rest e le = (let len = ap length e ∙ length-append text rest in omega (arith, len, le))

-- an answer that isn't read
pub answer_fails : (askers : ℕ) (bytes : List ℕ) → IsBytes bytes → length bytes ≤ LIMIT → (first second third : List ℕ) (h : Hello) (t : Tag) → front_at response_front bytes ≡ Ok (response_front, first) → hello_at first ≡ Ok (h, second) → tag_at second ≡ Ok (t, third)
    → (format : Format) (replicas : ℕ) → format ≡ format_said h.version → replicas ≡ replicas_with askers h
    → (e : Fault) → (length third ≤ LIMIT → Fails e (all_of (answer_at_in format replicas) third)) → Fails e (all_of (response_at askers) bytes)
answer_fails askers bytes fits le first second third h t p q u format replicas is_format is e fails =
    let front = (front_reader response_front).takes bytes (response_front, first) fits p in
    let hello = hello_reader.takes first (h, second) front.0.rest_fits q in
    let le_first = shorter bytes response_front first front.0.parts le in
    let le_second = shorter first (hello_text h) second hello.0.parts le_first in
    let tag = tag_reader.takes second (t, third) hello.0.rest_fits u in
    let le_third = shorter second (tag_bytes t) third tag.0.parts le_second in
    let r = all_of (answer_at_in (format_said h.version) (replicas_with askers h)) third in
    fails_on e r (made response_front (h, t) response_by) (all_of (response_at askers) bytes) (response_ends askers bytes first second third h t p q u)
    (subst (λ n. Fails e (all_of (answer_at_in (format_said h.version) n) third)) is (subst (λ f. Fails e (all_of (answer_at_in f replicas) third)) is_format (fails le_third)))
