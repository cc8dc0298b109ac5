-- Tags are read as they are spelled, and each replica's is one.
use Rattle.std.proofs.Common.{◌≡◌, ◌∙◌, ℕ, zero, suc, ◌^◌, ◌<◌, List, [], ◌∷◌, ◌++◌, length, get_or, refl, sym, ap, subst, inl, inr, append_assoc, arith}
use Rattle.std.specs.Prelude.{slice_index}
use Rattle.std.specs.Int.{to_be_bytes, w32, w64}
use Rattle.std.proofs.lemmas.Bool.{cases_lt}
use Rattle.std.proofs.lemmas.List.{get_or-take, get_or_past, take_at}
use Rattle.sha2.specs.Sha256.{digest_bytes, final_hash, initial_hash_256, sha256}
use Rattle.sha2.proofs.Facts256.{length-sha256}
use Rattle.rds_bytes.specs.Reading.{bytes_at, number_at, pair_at}
use Rattle.rds_bytes.proofs.Format.{IsBytes, IsFormat, Takes, known_format, made_format, number64, pair_format}
use Rattle.rds_codec.proofs.Whole.{IsReaderOf}
use Rattle.rds_state.specs.Fits.{ReplicaValue}
use Rattle.rds_answers.proofs.MarkHalves.{mark_is_mark}
use Rattle.rds_questions.specs.Hashed.{question_hash, told_text}
use Rattle.rds_questions.specs.Questions.{question_of}
use Rattle.rds_questions.specs.Tags.{IsTag, IsTagOf, tag_at, tag_by, tag_kind, tag_of, tag_bytes}
use Rattle.rds_questions.specs.declared.tags.Tag.{Tag}

-- ---- bytes

-- a prefix of bytes has bytes
bytes_before : (bytes text rest : List ℕ) → IsBytes bytes → bytes ≡ text ++ rest → IsBytes text
bytes_before bytes text rest fits e i =
    elim (cases_lt i (length text)) [
      | inl lt ↦
          let same : get_or text i 0 ≡ get_or bytes i 0 =
          ap (λ (t : List ℕ). get_or t i 0) (sym (take_at text rest (length text) refl)) ∙ (get_or-take (length text) (text ++ rest) i 0 lt ∙ ap (λ (t : List ℕ). get_or t i 0) (sym e)) in
          subst (λ n. n < 256) (sym same) (fits i)
      | inr le ↦ subst (λ n. n < 256) (sym (get_or_past text i 0 le)) (omega arith)
    ]

-- bytes behind bytes
bytes_behind : (a b : List ℕ) → IsBytes a → IsBytes b → (i : ℕ) → get_or (a ++ b) i 0 < 256
bytes_behind [] b first second i = second i
bytes_behind (x ∷ a) b first second zero = first 0
bytes_behind (x ∷ a) b first second (suc i) = bytes_behind a b (λ j. first (suc j)) second i

-- ---- each replica's tag is one

word_bytes : (n : ℕ) → IsBytes (to_be_bytes w32 n)
word_bytes n zero = omega arith
word_bytes n (suc zero) = omega arith
word_bytes n (suc (suc zero)) = omega arith
word_bytes n (suc (suc (suc zero))) = omega arith
word_bytes n (suc (suc (suc (suc i)))) = omega arith

no_bytes : IsBytes []
no_bytes i = omega arith

digest_is_bytes : (h : List ℕ) (n : ℕ) → IsBytes (digest_bytes h n)
unfolding digest_bytes
digest_is_bytes h zero = no_bytes
digest_is_bytes h (suc n) = bytes_behind (digest_bytes h n) (to_be_bytes w32 (slice_index h n)) (digest_is_bytes h n) (word_bytes (slice_index h n))

hash_is_bytes : (m : List ℕ) → IsBytes (sha256 m)
unfolding sha256
hash_is_bytes m = digest_is_bytes (final_hash initial_hash_256 m) 8

hash_is_of : (v : ReplicaValue) → question_hash (question_of v) ≡ sha256 (told_text (question_of v))
unfolding question_hash
hash_is_of v = refl

pub own_tag : (v : ReplicaValue) → IsTag (tag_of v)
own_tag v =
    let of = sym (hash_is_of v) in
    let mark = mark_is_mark v.state in
    record {
      bytes = subst IsBytes of (hash_is_bytes (told_text (question_of v)));
      length = subst (λ (t : List ℕ). length t ≡ 32) of (length-sha256 (told_text (question_of v)));
      high = mark.high;
      low = mark.low;
    }

-- there is one tag of a replica
pub the_tag : (v : ReplicaValue) (tag : Tag) → IsTagOf v tag → tag ≡ tag_of v
the_tag v tag is = λ i. record { hash = is.hash i; mark = is.mark i }

pub tag_is : (v : ReplicaValue) (tag : Tag) → IsTagOf v tag → IsTag tag
tag_is v tag is = subst IsTag (sym (the_tag v tag is)) (own_tag v)

-- ---- how it is read

abbrev Parts : Type 0
Parts = List ℕ × (ℕ × ℕ)

abbrev FitParts : Parts → Type 0
FitParts p = (length p.0 ≡ 32) × ((p.1.0 < 2 ^ 64) × (p.1.1 < 2 ^ 64))

abbrev parts_text : Parts → List ℕ
parts_text p = p.0 ++ (to_be_bytes w64 p.1.0 ++ to_be_bytes w64 p.1.1)

abbrev parts_of : Tag → Parts
parts_of t = (t.hash, (t.mark.high, t.mark.low))

parts_format : IsFormat (pair_at (bytes_at 32) (pair_at (number_at w64) (number_at w64))) parts_text FitParts
parts_format =
    pair_format (bytes_at 32) (pair_at (number_at w64) (number_at w64)) (λ t. t) (λ p. to_be_bytes w64 p.0 ++ to_be_bytes w64 p.1) (λ t. length t ≡ 32) (λ p. (p.0 < 2 ^ 64) × (p.1 < 2 ^ 64))
    (known_format 32)
    (pair_format (number_at w64) (number_at w64) (to_be_bytes w64) (to_be_bytes w64) (λ n. n < 2 ^ 64) (λ n. n < 2 ^ 64) number64 number64)

tag_format : IsFormat tag_at (λ t. parts_text (parts_of t)) (λ t. FitParts (parts_of t))
unfolding tag_at
tag_format = made_format tag_by parts_of (pair_at (bytes_at 32) (pair_at (number_at w64) (number_at w64))) parts_text FitParts (λ t. FitParts (parts_of t)) (λ t h. (h, refl)) (λ p h. (h, refl)) parts_format

tag_spelled : (t : Tag) → tag_bytes t ≡ parts_text (parts_of t)
unfolding tag_bytes
tag_spelled t = refl

-- it is written part by part
pub tag_added : (old a b c : List ℕ) (t : Tag) → a ≡ old ++ t.hash → b ≡ a ++ to_be_bytes w64 t.mark.high → c ≡ b ++ to_be_bytes w64 t.mark.low → c ≡ old ++ tag_bytes t
tag_added old a b c t first second third =
    let high = to_be_bytes w64 t.mark.high in
    let low = to_be_bytes w64 t.mark.low in
    third
    ∙ (ap (λ (s : List ℕ). s ++ low) (second ∙ ap (λ (s : List ℕ). s ++ high) first)
    ∙ (append_assoc (old ++ t.hash) high low ∙ (append_assoc old t.hash (high ++ low) ∙ sym (ap (λ (s : List ℕ). old ++ s) (tag_spelled t)))))

tag_takes : (bytes : List ℕ) (x : Tag × List ℕ) → IsBytes bytes → Takes bytes (parts_text (parts_of x.0)) x.1 × FitParts (parts_of x.0) → Takes bytes (tag_bytes x.0) x.1 × IsTag x.0
tag_takes bytes x fits read =
    let t = x.0 in
    let behind = to_be_bytes w64 t.mark.high ++ to_be_bytes w64 t.mark.low in
    let text = bytes_before bytes (parts_text (parts_of t)) x.1 fits read.0.parts in (
      subst (λ (s : List ℕ). Takes bytes s x.1) (sym (tag_spelled t)) read.0,
      record { bytes = bytes_before (parts_text (parts_of t)) t.hash behind text refl; length = read.1.0; high = read.1.1.0; low = read.1.1.1 },
    )

pub tag_reader : IsReaderOf tag_kind tag_at
tag_reader = record {
  takes = λ bytes x fits e. tag_takes bytes x fits (tag_format.takes bytes x fits e);
  again = λ t rest is le. ap (λ (s : List ℕ). tag_at (s ++ rest)) (tag_spelled t) ∙ tag_format.again t rest (is.length, (is.high, is.low));
  faults = tag_format.faults;
}
