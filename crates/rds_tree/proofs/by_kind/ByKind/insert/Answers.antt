use Rattle.std.proofs.Common.{refl}
use Rattle.rds_tree.proofs.Adding.{on_ok}
use Rattle.rds_tree.proofs.HeldLeaves.{adds_elem, adds_reg}
use Rattle.rds_tree.proofs.by_kind.ByKind.insert.Goals as goal

pub returns-in-Reg-clause-ok : goal.returns-in-Reg-clause-ok
returns-in-Reg-clause-ok c =
    on_ok c.insert.result (λ grows. adds_reg c.args.leaf.kind c.in-Reg.is _ _ c.self.inside.regs c.insert.new.self c.self.inside.elems c.args.leaf.value c.args.leaf.dot c.self.view_is refl grows) c.insert.ensures.ok

pub returns-in-Elem-clause-ok : goal.returns-in-Elem-clause-ok
returns-in-Elem-clause-ok c =
    on_ok c.insert-in-Elem.result (λ grows. adds_elem c.args.leaf.kind c.in-Elem.is _ _ c.self.inside.regs c.self.inside.elems c.insert-in-Elem.new.self c.args.leaf.value c.args.leaf.dot c.self.view_is refl grows) c.insert-in-Elem.ensures.ok
