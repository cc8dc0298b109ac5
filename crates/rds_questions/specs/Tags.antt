-- Tags: what a replica has seen, by a hash, and what it holds, by a mark. Their text, and how it is read.
use Rattle.std.specs.Prelude.{◌≡◌, ◌≢◌, ◌<◌, ◌^◌, ℕ, List, ◌++◌, length, slice_index, refl}
use Rattle.std.specs.Coded.{Coded, code_by, coded×, coded_list, coded_ℕ}
use Rattle.std.specs.Int.{to_be_bytes, w64}
use Rattle.rds_bytes.specs.Reading.{Reader, bytes_at, made_at, number_at, pair_at}
use Rattle.rds_briefs.specs.Briefs.{brief_text}
use Rattle.rds_codec.specs.FormatWriting.{IsTabledUnwritten}
use Rattle.rds_codec.specs.Kinds.{Kind}
use Rattle.rds_names.specs.declared.fault.Fault.{Fault}
use Rattle.rds_state.specs.Fits.{ReplicaValue}
use Rattle.rds_state.specs.Mark.{mark_of}
use Rattle.rds_questions.specs.Hashed.{question_hash}
use Rattle.rds_questions.specs.Questions.{question_of}
use Rattle.rds_questions.specs.declared.tags.Tag.{Tag}

-- a hash has 32 bytes, and a mark two numbers of 64 bits
pub record IsTag (tag : Tag) : Type 0 where
  pub bytes : (i : ℕ) → slice_index tag.hash i < 256
  pub length : length tag.hash ≡ 32
  pub high : tag.mark.high < 2 ^ 64
  pub low : tag.mark.low < 2 ^ 64

-- the tag tells what a replica asks, but for who asks, and the mark of its state
pub record IsTagOf (held : ReplicaValue) (tag : Tag) : Type 0 where
  pub hash : tag.hash ≡ question_hash (question_of held)
  pub mark : tag.mark ≡ mark_of held.state

-- there is one
abbrev pub tag_of : ReplicaValue → Tag
tag_of held = record { hash = question_hash (question_of held); mark = mark_of held.state }

-- why none is made: memory ran out, or the brief is too long for a question
abbrev pub RefusesTag : ReplicaValue → Fault → Type 0
RefusesTag held = IsTabledUnwritten (length (brief_text (question_of held).digest))

-- what was seen is the same, and what is held isn't
pub record IsForkOf (tag other : Tag) : Type 0 where
  pub seen : tag.hash ≡ other.hash
  pub held : tag.mark ≢ other.mark

abbrev pub coded_tag : Coded Tag
coded_tag =
    code_by (List ℕ × (ℕ × ℕ)) (coded× (coded_list coded_ℕ) (coded× coded_ℕ coded_ℕ))
    (λ t. (t.hash, (t.mark.high, t.mark.low)))
    (λ p. record { hash = p.0; mark = record { high = p.1.0; low = p.1.1 } }) (λ _. refl)

-- ---- its text

-- the hash, and the halves of the mark, the high one first
unfoldable pub tag_bytes : Tag → List ℕ
tag_bytes tag = tag.hash ++ (to_be_bytes w64 tag.mark.high ++ to_be_bytes w64 tag.mark.low)

abbrev pub tag_by : List ℕ × (ℕ × ℕ) → Tag
tag_by p = record { hash = p.0; mark = record { high = p.1.0; low = p.1.1 } }

unfoldable pub tag_at : Reader Tag
tag_at = made_at tag_by (pair_at (bytes_at 32) (pair_at (number_at w64) (number_at w64)))

abbrev pub tag_kind : Kind Tag
tag_kind = record { is_value = IsTag; text = tag_bytes }
