use Rattle.std.proofs.Common.{refl}
use Rattle.rds_tree.proofs.HeldLeaves.{add_less, del_less, set_less}
use Rattle.rds_tree.proofs.by_kind.ByKind.cut_covered.Goals as goal

pub returns-in-Set : goal.returns-in-Set
returns-in-Set c =
    set_less c.in-Set.field-0 c.in-Set.field-1 c.args.command.now c.in-Set.is c.args.but _ _ c.self.inside.regs c.self.inside.elems c.cut.new.self c.self.view_is refl c.cut.ensures

pub returns-in-Add : goal.returns-in-Add
returns-in-Add c =
    let parts = c.self-in-Add.inside in
    add_less c.in-Add.field-0 c.in-Add.value c.args.command.now c.in-Add.is c.args.but _ _ parts.regs parts.elems c.cut_value.new.self c.self-in-Add.view_is refl c.cut_value.ensures

pub returns-in-Del : goal.returns-in-Del
returns-in-Del c =
    let parts = c.self-in-Del.inside in
    del_less c.in-Del.field-0 c.in-Del.value c.args.command.now c.in-Del.is c.args.but _ _ parts.regs parts.elems c.cut_value-in-Del.new.self c.self-in-Del.view_is refl c.cut_value-in-Del.ensures
