use Rattle.std.proofs.Common.{◌∙◌, ap, not, sym}
use Rattle.rds_tree.specs.Row.{is_filled}
use Rattle.rds_tree.proofs.Cutting.{full_of}
use Rattle.rds_tree.proofs.HeldLeaves.{full-leaves, regs_full}
use Rattle.rds_tree.proofs.Rows.{then_empty}
use Rattle.rds_tree.proofs.by_kind.ByKind.is_empty.Goals as goal

pub returns-then-is_empty : goal.returns-then-is_empty
returns-then-is_empty c =
    let regs = c.self.inside.regs in
    let elems = c.self.inside.elems in
    then_empty c.is_empty.result _ (is_filled regs) (is_filled elems) c.is_empty.ensures.empty c.if-is_empty.true c.is_empty-then-is_empty.ensures.empty
    ∙ ap not (sym (full-leaves regs elems c.is_empty.ensures.held c.is_empty-then-is_empty.ensures.held) ∙ ap is_filled c.self.view_is)

pub returns-else-is_empty : goal.returns-else-is_empty
returns-else-is_empty c =
    let regs = c.self.inside.regs in
    c.if-is_empty.false
    ∙ ap not (sym (regs_full regs c.self.inside.elems c.is_empty.ensures.held (full_of regs c.is_empty.result c.is_empty.ensures.empty c.if-is_empty.false)) ∙ ap is_filled c.self.view_is)
