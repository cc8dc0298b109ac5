use Rattle.std.proofs.Common.{◌∙◌, ◌++◌}
use Rattle.rds_questions.specs.Tags.{tag_bytes}
use Rattle.rds_questions.proofs.TagTexts.{the_tag}
use Rattle.rds_questions.proofs.responding.answerer_bytes.Goals as goal

pub returns-clause-text : goal.returns-clause-text
returns-clause-text g c =
    let tag = the_tag c.args.held.now c.in_ok-tag.tag c.in_ok-tag.ensures.tag in
    c.in_ok-put_tag.ensures ∙ (λ i. c.in_ok-text.ensures.text i ++ tag_bytes (tag i))
