use Rattle.std.proofs.Common.{◌≡◌, ◌∙◌, ◌||◌, ap, map, sym, true}
use Rattle.rds_tree.specs.Held.{among_any, among_dots, among_held}
use Rattle.rds_tree.proofs.Gathering.{gathers_next, gathers_whole}
use Rattle.rds_tree.proofs.HeldLeaves.{among_values}
use Rattle.rds_tree.proofs.by_value.ByValue.gather.Goals as goal

pub loop-list-preserved : goal.loop-list-preserved
loop-list-preserved c d e =
    gathers_next (among_dots c.in-Some.list.now) (among_any c.next.new.self) c.loop-list.dots.items c.gather.new.dots.items c.in_ok-gather.ensures.ok d e
    ∙ ap (λ ls. among_dots c.loop-list.dots.items d e || among_any ls d e) (sym c.in-Some.ensures.steps) ∙ c.loop-list.invariant d e

pub returns-clause-ok : goal.returns-clause-ok
returns-clause-ok c =
    let each : c.into_iter-list-iterator.result ≡ map (λ x. x.1) c.self.inside.values.entries = c.into_iter-list-iterator.ensures.into_iter_gives ∙ c.values-list-items.ensures.rest in
    gathers_whole (among_held (λ v. true) c.args.self.now) c.args.dots.now.items c.loop-list.dots.items
    (λ d e. ap (λ ls. among_dots c.loop-list.dots.items d e || among_any ls d e) (sym c.in-None.ensures.steps.0)
    ∙ c.loop-list.invariant d e
    ∙ ap (λ b. among_dots c.args.dots.now.items d e || b) (ap (λ ls. among_any ls d e) each ∙ among_values c.self.inside.values.entries d e ∙ ap (λ held. among_held (λ v. true) held d e) c.self.view_is))
