use Rattle.std.proofs.Common.{not, rules, ◌&&◌, ◌∙◌, ap}
use Rattle.rds_tree.specs.Held.{any_held, means}
use Rattle.rds_tree.proofs.Grouped.{any-retained, full-retained}
use Rattle.rds_tree.proofs.by_value.ByValue.cut.Goals as goal

pub invariant_of-self : goal.invariant_of-self
invariant_of-self c = full-retained _ (λ d. not (means c.args.which d)) _ (λ k v b w f' called. (search rules, (search rules, search rules))) _ _ c.retain.ensures.filtered

pub returns : goal.returns
returns c t =
    any-retained _ (λ d. not (means c.args.which d)) _ (λ k v b w f' called. (search rules, (search rules, search rules))) _ _ c.retain.ensures.filtered t
    ∙ ap (any_held (λ v d. t v d && not (means c.args.which d))) c.self.view_is
