use Rattle.std.proofs.Common.{◌∙◌, ◌++◌, ◌∷◌, [], ap, sym}
use Rattle.rds_listing.specs.Dump.{dump_text, edits_text, values_edits}
use Rattle.rds_listing.proofs.Amounts.{under_last}
use Rattle.rds_store.proofs.document.Document.dump_part.Goals as goal

pub returns-clause-text : goal.returns-clause-text
returns-clause-text c =
    let above = c.args.above.now in
    let key = c.args.key.now in
    c.in_ok-text.ensures.text
    ∙ ap edits_text (ap (values_edits above) c.in_ok-shape.ensures.shown ∙ sym (under_last c.self.inside.index.state [] above key))
    ∙ ap (λ v. dump_text v.state (above ++ key ∷ [])) c.self.view_is
