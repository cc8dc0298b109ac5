use Rattle.std.proofs.Common.{◌≡◌, ◌∙◌, ap}
use Rattle.rds_questions.specs.Questions.{question_of, question_text}
use Rattle.rds_http.proofs.tracked.Tracked.note_asked.Goals as goal

pub note-requires : goal.note-requires
note-requires g c =
    let same : c.document.result.now ≡ c.args.self.now.document = cc (c.document.ensures, c.self.view_is, c.in_ok-tag.ensures.same) in
    record {
      held = c.args.self.now.document;
      is_tag = c.in_ok-tag.ensures.tag;
      text = c.in_ok-question.ensures.0 ∙ ap (λ v. question_text (question_of v)) same;
    }
