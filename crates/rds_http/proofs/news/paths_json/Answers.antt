use Rattle.std.proofs.Common.{◌∙◌, ap}
use Rattle.serde_json.specs.Written.{compact_text, has_float}
use Rattle.rds_http.proofs.NewsTexts.{paths_plain}
use Rattle.rds_http.proofs.news.paths_json.Goals as goal

pub returns : goal.returns
returns c =
    let is = c.in_ok-value.ensures in
    c.in_ok-to_string.ensures.text (ap has_float is ∙ paths_plain c.args.paths.now) ∙ ap compact_text is
