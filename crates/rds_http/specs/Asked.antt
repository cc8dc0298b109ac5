-- What a replica asked, and its tag.
use Rattle.std.specs.Prelude.{◌≡◌, ℕ, List, refl}
use Rattle.std.specs.Coded.{Coded, code_by, coded×, coded_list, coded_ℕ}
use Rattle.rds_questions.specs.Questions.{question_of, question_text}
use Rattle.rds_questions.specs.Tags.{IsTagOf}
use Rattle.rds_questions.specs.declared.tags.Tag.{Tag}
use Rattle.rds_state.specs.Fits.{ReplicaValue}
use Rattle.rds_state.specs.declared.mark.Mark.{Mark}

pub record AskedValue : Type 0 where
  pub tag : Tag
  pub question : List ℕ

abbrev pub coded_asked : Coded AskedValue
coded_asked =
    code_by (List ℕ × (ℕ × (ℕ × List ℕ))) (coded× (coded_list coded_ℕ) (coded× coded_ℕ (coded× coded_ℕ (coded_list coded_ℕ))))
    (λ a. (a.tag.hash, (a.tag.mark.high, (a.tag.mark.low, a.question))))
    (λ p. record { tag = record { hash = p.0; mark = record { high = p.1.0; low = p.1.1.0 } }; question = p.1.1.1 }) (λ _. refl)

-- a replica asked this with this tag
pub record HasTag (question : List ℕ) (tag : Tag) : Type 0 where
  pub held : ReplicaValue
  pub is_tag : IsTagOf held tag
  pub text : question ≡ question_text (question_of held)
