use Rattle.std.proofs.Common.{◌∙◌, ap, subst}
use Rattle.std.proofs.lemmas.Result.{IfOk-weaker}
use Rattle.serde_json.specs.Data.{Data}
use Rattle.serde_json.specs.Written.{compact_text}
use Rattle.rds_json.specs.Standing.{standing_data}
use Rattle.rds_json.proofs.OneKey.{standing-only}
use Rattle.rds_output.specs.Reply.{is_refusal, reply_text}
use Rattle.rds_tree.specs.Document.{document}
use Rattle.rds_tree.specs.View.{view_of}
use Rattle.rds_lines.proofs.views.shown_at.Goals as goal

pub returns-clause-shown : goal.returns-clause-shown
returns-clause-shown g c =
    let key = c.args.key.now in
    let stands = ap (standing_data key) c.in_ok-view.ensures.shown ∙ standing-only key (view_of (document c.args.state.now) c.args.above.now) in
    IfOk-weaker c.printed_at.result _ _ (λ answer h. (h.0 ∙ ap compact_text stands, h.1)) c.printed_at.ensures.shown
