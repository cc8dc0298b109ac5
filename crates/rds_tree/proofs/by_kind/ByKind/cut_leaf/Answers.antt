use Rattle.std.proofs.Common.{refl}
use Rattle.rds_tree.proofs.HeldLeaves.{elem_less, reg_less}
use Rattle.rds_tree.proofs.by_kind.ByKind.cut_leaf.Goals as goal

pub returns-in-Reg : goal.returns-in-Reg
returns-in-Reg c = reg_less c.args.kind c.in-Reg.is c.args.value.now c.args.dot _ _ c.self.inside.regs c.self.inside.elems c.cut_value.new.self c.self.view_is refl c.cut_value.ensures

pub returns-in-Elem : goal.returns-in-Elem
returns-in-Elem c = elem_less c.args.kind c.in-Elem.is c.args.value.now c.args.dot _ _ c.self.inside.regs c.self.inside.elems c.cut_value-in-Elem.new.self c.self.view_is refl c.cut_value-in-Elem.ensures
