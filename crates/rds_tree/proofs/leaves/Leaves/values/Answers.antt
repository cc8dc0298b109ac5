use Rattle.std.proofs.Common.{◌∙◌, ap, sym}
use Rattle.rds_tree.specs.Forms.{leaves_kept}
use Rattle.rds_tree.specs.Gathered.{values_in}
use Rattle.rds_tree.specs.View.{values_once}
use Rattle.rds_tree.proofs.FewValues.{no_values}
use Rattle.rds_tree.proofs.HeldLeaves.{if_ok}
use Rattle.rds_tree.proofs.TwoLeaves.{two_values}
use Rattle.rds_tree.proofs.leaves.Leaves.values.Goals as goal

pub returns-in-Empty-clause-ok : goal.returns-in-Empty-clause-ok
returns-in-Empty-clause-ok c =
    c.new.ensures.items ∙ no_values ∙ ap (λ ls. values_once (values_in c.args.kind ls)) (sym (ap leaves_kept c.in-Empty.is) ∙ c.self.view_is)

pub returns-in_ok-both-in-Two-clause-ok : goal.returns-in_ok-both-in-Two-clause-ok
returns-in_ok-both-in-Two-clause-ok c =
    if_ok c.values-in-Two.result (λ values is. is ∙ two_values c.args.kind c.in_ok-both-in-Two.field-0 c.args.self.now c.in-Two.first c.in-Two.second c.in_ok-both-in-Two.ensures.ok (sym (ap leaves_kept c.in-Two.is) ∙ c.self.view_is))
    c.values-in-Two.ensures.ok
