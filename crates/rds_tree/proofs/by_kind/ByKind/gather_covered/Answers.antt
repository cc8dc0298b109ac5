use Rattle.std.proofs.Common.{ap, true}
use Rattle.rds_tree.specs.Cuts.{among_leaves, covered_leaf}
use Rattle.rds_tree.specs.Held.{among_held, at_value}
use Rattle.rds_tree.proofs.Gathering.{gathers_none, gathers_same_if}
use Rattle.rds_tree.proofs.HeldLeaves.{add_among, del_among, none_among, set_among}
use Rattle.rds_tree.proofs.by_kind.ByKind.gather_covered.Goals as goal

pub returns-in-Set-clause-ok : goal.returns-in-Set-clause-ok
returns-in-Set-clause-ok c =
    let parts = c.self.inside in
    gathers_same_if c.gather.result (among_held (λ v. true) parts.regs) (among_leaves (covered_leaf c.args.command.now) c.args.self.now) c.args.dots.now.items c.gather.new.dots.items
    (λ d e. set_among c.in-Set.field-0 c.in-Set.field-1 d e c.args.command.now c.in-Set.is c.args.self.now parts.regs parts.elems c.self.view_is)
    c.gather.ensures.ok

pub returns-in-Add-clause-ok : goal.returns-in-Add-clause-ok
returns-in-Add-clause-ok c =
    let parts = c.self.inside in
    gathers_same_if c.gather_value.result (among_held (at_value c.in-Add.value) parts.elems) (among_leaves (covered_leaf c.args.command.now) c.args.self.now) c.args.dots.now.items c.gather_value.new.dots.items
    (λ d e. add_among c.in-Add.field-0 c.in-Add.value d e c.args.command.now c.in-Add.is c.args.self.now parts.regs parts.elems c.self.view_is)
    c.gather_value.ensures.ok

pub returns-in-Del-clause-ok : goal.returns-in-Del-clause-ok
returns-in-Del-clause-ok c =
    let parts = c.self.inside in
    gathers_same_if c.gather_value-in-Del.result (among_held (at_value c.in-Del.value) parts.elems) (among_leaves (covered_leaf c.args.command.now) c.args.self.now) c.args.dots.now.items c.gather_value-in-Del.new.dots.items
    (λ d e. del_among c.in-Del.field-0 c.in-Del.value d e c.args.command.now c.in-Del.is c.args.self.now parts.regs parts.elems c.self.view_is)
    c.gather_value-in-Del.ensures.ok

pub returns-in-Inc-clause-ok : goal.returns-in-Inc-clause-ok
returns-in-Inc-clause-ok c =
    gathers_none (among_leaves (covered_leaf c.args.command.now) c.args.self.now) c.args.dots.now.items
    (λ d e. none_among (covered_leaf c.args.command.now) c.args.self.now d e (λ l. ap (λ m. covered_leaf m l) c.in-Inc.is))

pub returns-in-Dec-clause-ok : goal.returns-in-Dec-clause-ok
returns-in-Dec-clause-ok c =
    gathers_none (among_leaves (covered_leaf c.args.command.now) c.args.self.now) c.args.dots.now.items
    (λ d e. none_among (covered_leaf c.args.command.now) c.args.self.now d e (λ l. ap (λ m. covered_leaf m l) c.in-Dec.is))
