use Rattle.std.proofs.Common.{◌∙◌, ap, sym, true}
use Rattle.std.specs.FinMap as map
use Rattle.rds_tree.specs.Cuts.{among_leaves, covered_leaf}
use Rattle.rds_tree.specs.Held.{among_held, at_value}
use Rattle.rds_tree.proofs.HeldLeaves.{add_among, del_among, none_among, set_among}
use Rattle.rds_tree.proofs.Killing.{killed_never, killed_same}
use Rattle.rds_tree.proofs.by_kind.ByKind.kill_covered.Goals as goal

pub returns-in-Set : goal.returns-in-Set
returns-in-Set g c d =
    let parts = c.self.inside in
    c.kill.ensures d
    ∙ killed_same (among_held (λ v. true) parts.regs) (among_leaves (covered_leaf c.args.command.now) c.args.self.now) c.args.but d (map.get c.args.lives.now d)
    (λ e. set_among c.in-Set.field-0 c.in-Set.field-1 d e c.args.command.now c.in-Set.is c.args.self.now parts.regs parts.elems c.self.view_is)

pub returns-in-Add : goal.returns-in-Add
returns-in-Add g c d =
    let parts = c.self.inside in
    c.kill_value.ensures d
    ∙ killed_same (among_held (at_value c.in-Add.value) parts.elems) (among_leaves (covered_leaf c.args.command.now) c.args.self.now) c.args.but d (map.get c.args.lives.now d)
    (λ e. add_among c.in-Add.field-0 c.in-Add.value d e c.args.command.now c.in-Add.is c.args.self.now parts.regs parts.elems c.self.view_is)

pub returns-in-Del : goal.returns-in-Del
returns-in-Del g c d =
    let parts = c.self.inside in
    c.kill_value-in-Del.ensures d
    ∙ killed_same (among_held (at_value c.in-Del.value) parts.elems) (among_leaves (covered_leaf c.args.command.now) c.args.self.now) c.args.but d (map.get c.args.lives.now d)
    (λ e. del_among c.in-Del.field-0 c.in-Del.value d e c.args.command.now c.in-Del.is c.args.self.now parts.regs parts.elems c.self.view_is)

pub returns-in-Inc : goal.returns-in-Inc
returns-in-Inc g c d =
    sym (killed_never (among_leaves (covered_leaf c.args.command.now) c.args.self.now) c.args.but d (map.get c.args.lives.now d)
    (λ e. none_among (covered_leaf c.args.command.now) c.args.self.now d e (λ l. ap (λ m. covered_leaf m l) c.in-Inc.is)))

pub returns-in-Dec : goal.returns-in-Dec
returns-in-Dec g c d =
    sym (killed_never (among_leaves (covered_leaf c.args.command.now) c.args.self.now) c.args.but d (map.get c.args.lives.now d)
    (λ e. none_among (covered_leaf c.args.command.now) c.args.self.now d e (λ l. ap (λ m. covered_leaf m l) c.in-Dec.is)))
