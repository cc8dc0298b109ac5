use Rattle.std.proofs.Common.{◌≡◌, ◌∙◌, ap, refl}
use Rattle.rds_http.proofs.Changed.{answers_question, on_ok, takes_posted}
use Rattle.rds_http.proofs.site.Site.do_post.Goals as goal

pub returns-in-Answer-clause-done : goal.returns-in-Answer-clause-done
returns-in-Answer-clause-done g c =
    let document : c.document.result.now ≡ c.args.self.now.document = c.document.ensures ∙ ap (λ s. s.document) c.self.view_is in
    on_ok c.answer.result
    (answers_question c.args.post c.args.body.now c.args.self.now c.answer.new.response c.args.self.now c.document.result.now c.in-Answer.is document)
    c.answer.ensures

pub returns-in-Take-clause-done : goal.returns-in-Take-clause-done
returns-in-Take-clause-done g c =
    on_ok c.take.result
    (takes_posted c.args.post c.args.body.now c.args.self.now c.take.new.response _ c.self.inside.held.file.document
    c.take.new.held.file.document c.in-Take.is (ap (λ s. s.document) c.self.view_is) refl)
    c.take.ensures.answered
