use Rattle.std.proofs.Common.{◌≡◌, ◌∙◌}
use Rattle.rds_http.proofs.Asking.{asked_now, asked_otherwise}
use Rattle.rds_http.proofs.tracked.Tracked.asked_at.Goals as goal

pub returns-in-Some-clause-some : goal.returns-in-Some-clause-some
returns-in-Some-clause-some g c =
    let same : c.document.result.now ≡ c.args.self.now.document = cc (c.document.ensures, c.self.view_is, c.in_ok-tag.ensures.same) in
    asked_now c.args.bytes.now c.as_bytes.result.now c.in-Some.rest.now c.in_ok-ask.field-0.items c.args.self.now.document
    c.document.result.now c.in_ok-tag.tag c.in-Some.ensures.cases.0 c.in-Some.ensures.cases.1
    (c.as_bytes.ensures.value ∙ c.in_ok-text.ensures.ok) c.in_ok-tag.ensures.tag c.in_ok-ask.ensures.0 same

pub returns-in_default-split_tag-clause-none : goal.returns-in_default-split_tag-clause-none
returns-in_default-split_tag-clause-none g c none =
    asked_otherwise c.args.bytes.now c.as_bytes.result.now c.args.self.now.document c.in_ok-tag.tag c.in_default.ensures.cases
    (c.as_bytes.ensures.value ∙ c.in_ok-text.ensures.ok) c.in_ok-tag.ensures.tag

pub returns-clause-none : goal.returns-clause-none
returns-clause-none g c none =
    asked_otherwise c.args.bytes.now c.as_bytes.result.now c.args.self.now.document c.in_ok-tag.tag c.in_default.ensures.cases
    (c.as_bytes.ensures.value ∙ c.in_ok-text.ensures.ok) c.in_ok-tag.ensures.tag
