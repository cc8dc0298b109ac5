use Rattle.std.proofs.Common.{◌∙◌, ap, sym, not}
use Rattle.rds_tree.specs.View.{goes_deeper}
use Rattle.rds_tree.specs.Row.{placed_all, is_filled}
use Rattle.rds_tree.proofs.Rows.{goes_on-rows, emptiness, not_not}
use Rattle.rds_tree.proofs.node.Node.goes_on.Goals as goal

pub returns : goal.returns
returns c =
    ap not (emptiness c.self.inside.children.entries _ c.is_empty.ensures) ∙ not_not (is_filled c.self.inside.children.entries)
    ∙ sym (goes_on-rows c.self.inside.leaves c.self.inside.children.entries c.self.invariant) ∙ ap (λ rows. goes_deeper (placed_all rows)) c.self.view_is
