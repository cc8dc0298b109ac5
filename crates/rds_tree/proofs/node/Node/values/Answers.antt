use Rattle.std.proofs.Common.{sym, ◌∙◌, ap}
use Rattle.rds_tree.specs.View.{values_here}
use Rattle.rds_tree.specs.Row.{placed_all}
use Rattle.rds_tree.proofs.HereValues.{values_here-rows}
use Rattle.rds_tree.proofs.node.Node.values.Goals as goal

pub returns-clause-ok : goal.returns-clause-ok
returns-clause-ok c =
    c.in_ok-values.ensures.ok ∙ sym (values_here-rows c.args.kind c.self.inside.leaves c.self.inside.children.entries)
    ∙ ap (λ rows. values_here c.args.kind (placed_all rows)) c.self.view_is
