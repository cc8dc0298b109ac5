-- Questions, responses and snapshots begin with other bytes.
use Rattle.std.proofs.Common.{◌≡◌, ℕ, List, ◌++◌, get_or, ap, refl, arith}
use Rattle.rds_state.specs.Fits.{ReplicaValue}
use Rattle.rds_codec.specs.FormatTexts.{snapshot_text_in}
use Rattle.rds_codec.specs.declared.formats.Format.{Format}
use Rattle.rds_codec.specs.declared.formats.Format.TheVariants.{One, Two}
use Rattle.rds_questions.specs.Laws.{AreToldApart}
use Rattle.rds_questions.specs.Questions.{QuestionValue, question_text}
use Rattle.rds_questions.specs.Responses.{ResponseValue, response_text}

-- the fourth bytes: B, C, 1 and 2
differ_66_67 : (n : ℕ) → n ≡ 66 → n ≡ 67 → ⊥
differ_66_67 n one other = omega (arith, one, other)

differ_66_49 : (n : ℕ) → n ≡ 66 → n ≡ 49 → ⊥
differ_66_49 n one other = omega (arith, one, other)

differ_66_50 : (n : ℕ) → n ≡ 66 → n ≡ 50 → ⊥
differ_66_50 n one other = omega (arith, one, other)

differ_67_49 : (n : ℕ) → n ≡ 67 → n ≡ 49 → ⊥
differ_67_49 n one other = omega (arith, one, other)

differ_67_50 : (n : ℕ) → n ≡ 67 → n ≡ 50 → ⊥
differ_67_50 n one other = omega (arith, one, other)

question_response : (q : QuestionValue) (r : ResponseValue) (x y : List ℕ) → question_text q ++ x ≡ response_text r ++ y → ⊥
unfolding question_text response_text
question_response q r x y e = differ_66_67 66 refl (ap (λ (t : List ℕ). get_or t 3 0) e)

question_snapshot : (q : QuestionValue) (f : Format) (v : ReplicaValue) (x y : List ℕ) → question_text q ++ x ≡ snapshot_text_in f v ++ y → ⊥
unfolding question_text snapshot_text_in
question_snapshot q One v x y e = differ_66_49 66 refl (ap (λ (t : List ℕ). get_or t 3 0) e)
question_snapshot q Two v x y e = differ_66_50 66 refl (ap (λ (t : List ℕ). get_or t 3 0) e)

response_snapshot : (r : ResponseValue) (f : Format) (v : ReplicaValue) (x y : List ℕ) → response_text r ++ x ≡ snapshot_text_in f v ++ y → ⊥
unfolding response_text snapshot_text_in
response_snapshot r One v x y e = differ_67_49 67 refl (ap (λ (t : List ℕ). get_or t 3 0) e)
response_snapshot r Two v x y e = differ_67_50 67 refl (ap (λ (t : List ℕ). get_or t 3 0) e)

pub told_apart : AreToldApart
told_apart = record {
  question_response = question_response;
  question_snapshot = λ q s x y e. question_snapshot q s.0 s.1 x y e;
  response_snapshot = λ r s x y e. response_snapshot r s.0 s.1 x y e;
}
