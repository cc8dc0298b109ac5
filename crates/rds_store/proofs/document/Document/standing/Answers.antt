use Rattle.std.proofs.Common.{◌∙◌, ap}
use Rattle.std.proofs.lemmas.Result.{IfOk-weaker}
use Rattle.serde_json.specs.Written.{compact_text}
use Rattle.rds_json.specs.Standing.{standing_data}
use Rattle.rds_json.proofs.OneKey.{standing-only}
use Rattle.rds_tree.specs.Document.{document}
use Rattle.rds_tree.specs.View.{view_of}
use Rattle.rds_store.proofs.document.Document.standing.Goals as goal

pub returns-clause-told : goal.returns-clause-told
returns-clause-told c =
    let above = c.args.above.now in
    let key = c.args.key.now in
    let stands =
    ap (standing_data key) c.in_ok-view.ensures.shown ∙ standing-only key (view_of (document c.self.inside.index.state) above)
    ∙ ap (λ v. standing_data key (view_of (document v.state) above)) c.self.view_is in
    IfOk-weaker c.show_at.result _ _ (λ text told. told ∙ ap compact_text stands) c.show_at.ensures.ok
