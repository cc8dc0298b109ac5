use Rattle.std.proofs.Common.{◌∙◌, sym}
use Rattle.std.specs.FinMap as map
use Rattle.rds_tree.specs.Cuts.{among, among_leaves, covered_leaf, found_at, is_deep}
use Rattle.rds_tree.proofs.Killing.{found_child, found_deep, found_here, found_none, killed_never, killed_same}
use Rattle.rds_tree.proofs.node.Node.+kill_in.Goals as goal

pub returns-then-is_deep : goal.returns-then-is_deep
returns-then-is_deep g t c d =
    let picks = covered_leaf c.args.command.now in
    let deep = is_deep c.args.command.now in
    c.kill_all.ensures d
    ∙ killed_same (among c.args.self.now) (found_at picks deep c.args.path.now c.args.self.now) c.args.but d (map.get c.args.lives.now d)
    (λ e. found_deep picks deep c.args.path.now c.args.self.now d e (sym c.is_deep.ensures ∙ c.if-is_deep.true) c.in-None.ensures.cases)

pub returns-else-is_deep : goal.returns-else-is_deep
returns-else-is_deep g t c d =
    let picks = covered_leaf c.args.command.now in
    let deep = is_deep c.args.command.now in
    c.kill_covered.ensures d
    ∙ killed_same (among_leaves picks c.self.inside.leaves) (found_at picks deep c.args.path.now c.args.self.now) c.args.but d (map.get c.args.lives.now d)
    (λ e. found_here picks deep c.args.path.now c.args.self.now c.self.inside.leaves c.self.inside.children.entries d e (sym c.is_deep.ensures ∙ c.if-is_deep.false) c.in-None.ensures.cases c.self.view_is)

pub returns-in-None-get : goal.returns-in-None-get
returns-in-None-get g t c d =
    let picks = covered_leaf c.args.command.now in
    let deep = is_deep c.args.command.now in
    sym (killed_never (found_at picks deep c.args.path.now c.args.self.now) c.args.but d (map.get c.args.lives.now d)
    (λ e. found_none picks deep c.in-Some.key.now c.in-Some.rest.now d e c.args.path.now c.args.self.now c.self.inside.leaves c.self.inside.children.entries c.in-Some.ensures.cases.0 c.self.view_is c.in-None-get.ensures.value))

pub returns-in-Some-get : goal.returns-in-Some-get
returns-in-Some-get g t c d =
    let picks = covered_leaf c.args.command.now in
    let deep = is_deep c.args.command.now in
    c.kill_in.ensures d
    ∙ killed_same (found_at picks deep c.in-Some.rest.now c.in-Some-get.child.now) (found_at picks deep c.args.path.now c.args.self.now) c.args.but d (map.get c.args.lives.now d)
    (λ e. found_child picks deep c.in-Some.key.now c.in-Some.rest.now d e c.args.path.now c.args.self.now c.in-Some-get.child.now c.self.inside.leaves c.self.inside.children.entries c.in-Some.ensures.cases.0 c.self.view_is c.len-in_order.ensures.ordered c.in-Some-get.ensures.value)
