-- The hash of what a question tells, and what it tells that two are equal.
use Rattle.std.specs.Prelude.{◌≡◌, ◌⊎◌, List, ℕ, ◌++◌}
use Rattle.sha2.specs.Sha256.{sha256}
use Rattle.rds_bytes.specs.Spelling.{roster_text}
use Rattle.rds_briefs.specs.Briefs.{brief_text}
use Rattle.rds_codec.specs.Laws.{HasText}
use Rattle.rds_delta.specs.Digested.{digest_of}
use Rattle.rds_state.specs.Coordinates.{AreCompatible}
use Rattle.rds_state.specs.Fits.{ReplicaValue}
use Rattle.rds_state.specs.Mark.{mark_of}
use Rattle.rds_state.specs.Value.{StateValue, coordinates}
use Rattle.rds_answers.specs.Hashes.{Collide}
use Rattle.rds_questions.specs.Questions.{QuestionValue, question_kind, question_of}

-- all of a question but who asks: the text of its roster, and the brief of its digest
unfoldable pub told_text : QuestionValue → List ℕ
told_text q = roster_text q.hello.roster ++ brief_text q.digest

unfoldable pub question_hash : QuestionValue → List ℕ
question_hash q = sha256 (told_text q)

-- two questions tell the same: they have one roster and one digest
pub record TellTheSame (q r : QuestionValue) : Type 0 where
  pub roster : q.hello.roster ≡ r.hello.roster
  pub digest : q.digest ≡ r.digest

-- questions with one hash tell the same, or their texts collide
abbrev pub EqualHashesTellEqualQuestions : Type 0
EqualHashesTellEqualQuestions =
    (q r : QuestionValue) → HasText question_kind q → HasText question_kind r → question_hash q ≡ question_hash r
    → TellTheSame q r ⊎ Collide (told_text q) (told_text r)

-- states with one digest, of which no dot has two entries, are one state
abbrev pub EqualDigestsTellEqualStates : Type 0
EqualDigestsTellEqualStates = (v w : StateValue) → digest_of v ≡ digest_of w
    → AreCompatible (coordinates v) (coordinates w) → v ≡ w

-- replicas that ask with one hash, of whose states no dot has two entries, have one mark, or texts of theirs collide
abbrev pub EqualHashesTellEqualMarks : Type 0
EqualHashesTellEqualMarks =
    (v w : ReplicaValue) → HasText question_kind (question_of v) → HasText question_kind (question_of w)
    → question_hash (question_of v) ≡ question_hash (question_of w)
    → AreCompatible (coordinates v.state) (coordinates w.state)
    → (mark_of v.state ≡ mark_of w.state) ⊎ Collide (told_text (question_of v)) (told_text (question_of w))
