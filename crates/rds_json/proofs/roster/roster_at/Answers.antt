use Rattle.std.proofs.Common.{◌∙◌, [], drop, map, ap, sym, subst, Option}
use Rattle.std.specs.Option.{option_map_or}
use Rattle.serde_json.specs.Data.{Items}
use Rattle.serde_json.specs.View.{view}
use Rattle.rds_json.specs.MayGive.{MayGive}
use Rattle.rds_json.specs.Members.{items_in}
use Rattle.rds_json.specs.RosterLine.{roster_from}
use Rattle.rds_json.proofs.Names.{items_back}
use Rattle.rds_json.proofs.roster.roster_at.Goals as goal

pub returns-in-Some-split_first : goal.returns-in-Some-split_first
returns-in-Some-split_first c =
    let items = c.in-Some.members.now in
    let rest = ap (λ vs. drop 1 (map view vs)) (sym c.in-Some-split_first.ensures.cases.0 ∙ c.as_slice.ensures.value)
    ∙ ap (drop 1) (sym (items_back (map view items.items)) ∙ ap (λ (o : Option Items). option_map_or items_in o []) c.in-Some.ensures) in
    subst (λ ds. MayGive c.roster_from.result (roster_from ds)) rest c.roster_from.ensures
