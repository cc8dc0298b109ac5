use Rattle.std.proofs.Common.{◌≡◌, ◌∙◌, ap, map, sym, true}
use Rattle.std.specs.FinMap as finite
use Rattle.rds_life.specs.Killed.{but_for, killed_by}
use Rattle.rds_tree.specs.Cuts.{among, among_each, among_leaves}
use Rattle.rds_tree.proofs.Killing.{among_node, killed_never, killed_step}
use Rattle.rds_tree.proofs.node.Node.+kill_all.Goals as goal

pub returns : goal.returns
returns g t c d =
    let but = c.args.but in
    let trees = map (λ x. x.1) c.self.inside.children.entries in
    let each : c.into_iter-child-iterator.result ≡ trees = c.into_iter-child-iterator.ensures.into_iter_gives ∙ c.values-child-items.ensures.rest in
    let last : finite.get c.loop-child.lives d ≡ killed_by (but_for but (among_each c.loop-child.child-iterator)) d (finite.get c.loop-child.lives d) =
    sym (killed_never (among_each c.loop-child.child-iterator) but d (finite.get c.loop-child.lives d) (λ e. ap (λ ts. among_each ts d e) c.in-None.ensures.steps.0)) in
    last ∙ c.loop-child.invariant d
    ∙ killed_step (among_leaves (λ l. true) c.self.inside.leaves) (among_each c.into_iter-child-iterator.result) (among c.args.self.now) but d (finite.get c.args.lives.now d) (finite.get c.kill.new.lives d) (c.kill.ensures d)
    (λ e. among_node c.args.self.now c.self.inside.leaves c.self.inside.children.entries c.into_iter-child-iterator.result d e c.self.view_is each)
