use Rattle.std.proofs.Common.{◌∙◌, ap}
use Rattle.serde_json.specs.Written.{compact_text, has_float}
use Rattle.rds_tree.specs.Shown.{shown_view}
use Rattle.rds_json.proofs.Plain.{view_plain}
use Rattle.rds_json.proofs.showing.show_sorted.Goals as goal

pub returns-clause-ok : goal.returns-clause-ok
returns-clause-ok c =
    let is = c.in_ok-value.ensures.ok in
    c.in_ok-to_string.ensures.text (ap has_float is ∙ view_plain (shown_view c.args.view.now)) ∙ ap compact_text is
