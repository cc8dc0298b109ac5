use Rattle.std.proofs.Common.{◌∙◌, ap, sym}
use Rattle.rds_names.specs.declared.entry.Kind.TheVariants.{Reg, Elem}
use Rattle.rds_tree.specs.Gathered.{values_in}
use Rattle.rds_tree.specs.View.{values_once}
use Rattle.rds_tree.proofs.HeldLeaves.{if_ok, values_are}
use Rattle.rds_tree.proofs.by_kind.ByKind.values.Goals as goal

pub returns-in-Reg-clause-ok : goal.returns-in-Reg-clause-ok
returns-in-Reg-clause-ok c =
    if_ok c.values.result (λ values is. is ∙ values_are Reg c.args.self.now c.self.inside.regs c.self.inside.elems c.self.view_is c.values.ensures.held c.values.ensures.rise
    ∙ ap (λ kind. values_once (values_in kind c.args.self.now)) (sym c.in-Reg.is)) c.values.ensures.ok

pub returns-in-Elem-clause-ok : goal.returns-in-Elem-clause-ok
returns-in-Elem-clause-ok c =
    if_ok c.values-in-Elem.result (λ values is. is ∙ values_are Elem c.args.self.now c.self.inside.regs c.self.inside.elems c.self.view_is c.values-in-Elem.ensures.held c.values-in-Elem.ensures.rise
    ∙ ap (λ kind. values_once (values_in kind c.args.self.now)) (sym c.in-Elem.is)) c.values-in-Elem.ensures.ok
