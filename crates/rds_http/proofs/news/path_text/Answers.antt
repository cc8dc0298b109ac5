use Rattle.std.proofs.Common.{◌∙◌, ◌++◌, ap, sym}
use Rattle.std.specs.List.{join_with_byte}
use Rattle.rds_http.proofs.NewsTexts.{joined_is, slashed}
use Rattle.rds_http.proofs.news.path_text.Goals as goal

pub loop-key-init : goal.loop-key-init
loop-key-init c =
    ap (λ first. first ++ slashed c.in-Some.rest.now) (c.in_ok-text.ensures.ok ∙ c.as_str.ensures.text)
    ∙ sym (ap (join_with_byte 47) c.in-Some.ensures.cases.0 ∙ joined_is c.in-Some.first.now c.in-Some.rest.now)
