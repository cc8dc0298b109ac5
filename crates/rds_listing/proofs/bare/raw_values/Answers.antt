use Rattle.std.proofs.Common.{◌∙◌, ◌≡◌, ℕ, List, ap, subst}
use Rattle.std.proofs.lemmas.Result.{IfOk-weaker}
use Rattle.rds_tree.specs.Document.{document}
use Rattle.rds_tree.specs.View.{view_of}
use Rattle.rds_listing.specs.Raw.{IsRaw, lines_at}
use Rattle.rds_listing.proofs.OneKey.{lines-only}
use Rattle.rds_listing.proofs.bare.raw_values.Goals as goal

pub returns-clause-raw : goal.returns-clause-raw
returns-clause-raw g c =
    let key = c.args.key.now in
    let stands = ap (lines_at c.args.wanted key) c.in_ok-shape.ensures.shown ∙ lines-only c.args.wanted key (view_of (document c.args.state.now) c.args.above.now) in
    IfOk-weaker c.raw_at.result _ _ (λ raw h. subst (λ (found : List (List (List ℕ))). IsRaw found raw) stands h) c.raw_at.ensures.raw
