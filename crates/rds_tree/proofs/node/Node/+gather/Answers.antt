use Rattle.std.proofs.Common.{◌∙◌, sym}
use Rattle.rds_tree.specs.Cuts.{among, among_leaves, covered_leaf, found_at, is_deep}
use Rattle.rds_tree.proofs.Gathering.{gathers_none, gathers_same_if}
use Rattle.rds_tree.proofs.Killing.{found_child, found_deep, found_here, found_none}
use Rattle.rds_tree.proofs.node.Node.+gather.Goals as goal

pub returns-then-is_deep-clause-ok : goal.returns-then-is_deep-clause-ok
returns-then-is_deep-clause-ok t c =
    let picks = covered_leaf c.args.command.now in
    let deep = is_deep c.args.command.now in
    gathers_same_if c.gather_all.result (among c.args.self.now) (found_at picks deep c.args.path.now c.args.self.now) c.args.dots.now.items c.gather_all.new.dots.items
    (λ d e. found_deep picks deep c.args.path.now c.args.self.now d e (sym c.is_deep.ensures ∙ c.if-is_deep.true) c.in-None.ensures.cases)
    c.gather_all.ensures.ok

pub returns-else-is_deep-clause-ok : goal.returns-else-is_deep-clause-ok
returns-else-is_deep-clause-ok t c =
    let picks = covered_leaf c.args.command.now in
    let deep = is_deep c.args.command.now in
    gathers_same_if c.gather_covered.result (among_leaves picks c.self.inside.leaves) (found_at picks deep c.args.path.now c.args.self.now) c.args.dots.now.items c.gather_covered.new.dots.items
    (λ d e. found_here picks deep c.args.path.now c.args.self.now c.self.inside.leaves c.self.inside.children.entries d e (sym c.is_deep.ensures ∙ c.if-is_deep.false) c.in-None.ensures.cases c.self.view_is)
    c.gather_covered.ensures.ok

pub returns-in-None-get-clause-ok : goal.returns-in-None-get-clause-ok
returns-in-None-get-clause-ok t c =
    let picks = covered_leaf c.args.command.now in
    let deep = is_deep c.args.command.now in
    gathers_none (found_at picks deep c.args.path.now c.args.self.now) c.args.dots.now.items
    (λ d e. found_none picks deep c.in-Some.key.now c.in-Some.rest.now d e c.args.path.now c.args.self.now c.self.inside.leaves c.self.inside.children.entries c.in-Some.ensures.cases.0 c.self.view_is c.in-None-get.ensures.value)

pub returns-in-Some-get-clause-ok : goal.returns-in-Some-get-clause-ok
returns-in-Some-get-clause-ok t c =
    let picks = covered_leaf c.args.command.now in
    let deep = is_deep c.args.command.now in
    gathers_same_if c.gather.result (found_at picks deep c.in-Some.rest.now c.in-Some-get.child.now) (found_at picks deep c.args.path.now c.args.self.now) c.args.dots.now.items c.gather.new.dots.items
    (λ d e. found_child picks deep c.in-Some.key.now c.in-Some.rest.now d e c.args.path.now c.args.self.now c.in-Some-get.child.now c.self.inside.leaves c.self.inside.children.entries c.in-Some.ensures.cases.0 c.self.view_is c.len-in_order.ensures.ordered c.in-Some-get.ensures.value)
    c.gather.ensures.ok
