-- When a response tells a fork.
use Rattle.std.proofs.Common.{◌≡◌, ◌∙◌, ◌↔◌, Bool, ◌++◌, inl, inr, sym, ap, subst}
use Rattle.std.specs.Prelude.{IsTrue}
use Rattle.sha2.specs.Sha256.{sha256}
use Rattle.rds_bytes.specs.Spelling.{roster_text}
use Rattle.rds_briefs.specs.Briefs.{brief_text}
use Rattle.rds_state.specs.Fits.{ReplicaValue}
use Rattle.rds_questions.specs.Forks.{ForksAreTold, NoOtherForksAreTold, TellsFork}
use Rattle.rds_questions.specs.Hashed.{TellTheSame, question_hash, told_text}
use Rattle.rds_questions.specs.Questions.{QuestionValue, question_of}
use Rattle.rds_questions.specs.Receiving.{ReceivedValue}
use Rattle.rds_questions.specs.Tags.{IsForkOf, IsTagOf, tag_of}
use Rattle.rds_questions.specs.declared.tags.Tag.{Tag}
use Rattle.rds_questions.proofs.TagTexts.{the_tag}
use Rattle.rds_questions.proofs.Told.{equal_marks}

same_text : (q r : QuestionValue) → TellTheSame q r → told_text q ≡ told_text r
unfolding told_text
same_text q r same = λ i. roster_text (same.roster i) ++ brief_text (same.digest i)

same_hash : (q r : QuestionValue) → TellTheSame q r → question_hash q ≡ question_hash r
unfolding question_hash
same_hash q r same = ap sha256 (same_text q r same)

pub forks_told : ForksAreTold
forks_told peer held x is same other = record {
  seen = is.hash ∙ same_hash (question_of peer) (question_of held) same;
  held = λ e. other (sym is.mark ∙ e);
}

pub no_others_told : NoOtherForksAreTold
no_others_told peer held x is peer_text held_text compatible fork =
    elim (equal_marks peer held peer_text held_text (sym is.hash ∙ fork.seen) compatible) [
      | inl marks ↦ absurd (fork.held (is.mark ∙ marks))
      | inr both ↦ both
    ]

-- by a tag of what is held
pub told_by : (v : ReplicaValue) (x : ReceivedValue) (tag own : Tag) (told : Bool) → tag ≡ x.tag → IsTagOf v own → (IsTrue told ↔ IsForkOf tag own) → IsTrue told ↔ TellsFork v x
told_by v x tag own told same is exact =
    let by_own = subst (λ (t : Tag). IsTrue told ↔ IsForkOf tag t) (the_tag v own is) exact in
    subst (λ (t : Tag). IsTrue told ↔ IsForkOf t (tag_of v)) same by_own
