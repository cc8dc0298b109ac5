use Rattle.std.proofs.Common.{◌∙◌, rules, sym}
use Rattle.std.proofs.lemmas.Iterator.{YieldsList-from_slice}
use Rattle.std.proofs.lemmas.Iterator.Search.{all_from_yields_List}
use Rattle.std.proofs.lemmas.List.Folds.{list_all-map}
use Rattle.serde_json.specs.View.{view}
use Rattle.rds_json.specs.RosterLine.{is_text}
use Rattle.rds_json.proofs.roster.are_texts.Goals as goal

pub returns : goal.returns
returns c =
    all_from_yields_List (λ d. is_text (view d)) _ _ _ c.all.ensures.ran (YieldsList-from_slice c.args.members.now c.iter.ensures.rest) (λ x b q called. search rules)
    ∙ sym (list_all-map is_text view c.args.members.now)
