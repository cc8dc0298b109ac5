use Rattle.std.proofs.Common.{◌≡◌, ◌∙◌, ◌||◌, ap, map, sym, true}
use Rattle.rds_tree.specs.Cuts.{among, among_each, among_leaves}
use Rattle.rds_tree.specs.Held.{among_dots}
use Rattle.rds_tree.proofs.Gathering.{gathers_next, gathers_both, gathers_whole}
use Rattle.rds_tree.proofs.Killing.{among_node}
use Rattle.rds_tree.proofs.node.Node.+gather_all.Goals as goal

pub loop-child-preserved : goal.loop-child-preserved
loop-child-preserved t c d e =
    gathers_next (among c.in-Some.child.now) (among_each c.next.new.self) c.loop-child.dots.items c.gather_all.new.dots.items c.in_ok-gather_all.ensures.ok d e
    ∙ ap (λ ts. among_dots c.loop-child.dots.items d e || among_each ts d e) (sym c.in-Some.ensures.steps) ∙ c.loop-child.invariant d e

pub returns-clause-ok : goal.returns-clause-ok
returns-clause-ok t c =
    let each : c.into_iter-child-iterator.result ≡ map (λ x. x.1) c.self.inside.children.entries = c.into_iter-child-iterator.ensures.into_iter_gives ∙ c.values-child-items.ensures.rest in
    gathers_both (among_leaves (λ l. true) c.self.inside.leaves) (among_each c.into_iter-child-iterator.result) (among c.args.self.now) c.args.dots.now.items c.gather.new.dots.items c.loop-child.dots.items c.in_ok-gather.ensures.ok
    (gathers_whole (among_each c.into_iter-child-iterator.result) c.gather.new.dots.items c.loop-child.dots.items (λ d e. ap (λ ts. among_dots c.loop-child.dots.items d e || among_each ts d e) (sym c.in-None.ensures.steps.0) ∙ c.loop-child.invariant d e))
    (λ d e. among_node c.args.self.now c.self.inside.leaves c.self.inside.children.entries c.into_iter-child-iterator.result d e c.self.view_is each)
