use Rattle.std.proofs.Common.{◌∙◌, [], length, map, ap, sym, Option}
use Rattle.std.specs.Option.{option_map_or}
use Rattle.std.proofs.lemmas.List.{length-map}
use Rattle.serde_json.specs.Data.{Items}
use Rattle.serde_json.specs.View.{view}
use Rattle.rds_json.specs.Members.{items_in}
use Rattle.rds_json.proofs.Names.{items_back}
use Rattle.rds_json.proofs.members.member_count.Goals as goal

pub returns-in-Some : goal.returns-in-Some
returns-in-Some c =
    let items = c.in-Some.members.now in
    c.len.ensures ∙ items.ok.0 ∙ sym (length-map items.items view) ∙ ap length (sym (items_back (map view items.items)) ∙ ap (λ (o : Option Items). option_map_or items_in o []) c.in-Some.ensures)
