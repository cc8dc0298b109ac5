use Rattle.std.proofs.Common.{rules, ◌≡◌, ◌++◌, sym, ap, ◌∙◌}
use Rattle.rds_delta.specs.Digested.{DigestValue}
use Rattle.rds_briefs.specs.Briefs.{brief_text}
use Rattle.rds_briefs.proofs.AfterBriefs.{same_rest}
use Rattle.rds_briefs.proofs.briefs.read_brief.Goals as goal

pub returns-in-Some-clause-text : goal.returns-in-Some-clause-text
returns-in-Some-clause-text g c = λ v rest is whole.
    let same : c.in-Ok.digest ≡ v = c.in-Ok.ensures.text v rest is whole in
    let spelled : c.args.bytes.now ≡ brief_text c.in-Ok.digest ++ c.in-Some.rest.now = search rules in
    (same, same_rest (brief_text v) c.in-Some.rest.now rest (sym (spelled ∙ ap (λ (x : DigestValue). brief_text x ++ c.in-Some.rest.now) same) ∙ whole))
