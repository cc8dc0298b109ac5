use Rattle.std.proofs.Common.{not, rules, ◌∙◌, ap}
use Rattle.std.specs.Prelude.{filter}
use Rattle.std.proofs.lemmas.Fn.{filter_same}
use Rattle.rds_tree.specs.Held.{means}
use Rattle.rds_tree.proofs.dot_list.DotList.cut.Goals as goal

pub returns : goal.returns
returns c = filter_same _ (λ d. not (means c.args.which d)) _ (λ x b h k. search rules) _ _ c.retain.ensures.filtered ∙ ap (filter (λ d. not (means c.args.which d))) c.self.view_is
