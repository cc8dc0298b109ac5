use Rattle.std.proofs.Common.{◌≡◌, ◌∙◌, ap, map, sym, true}
use Rattle.std.specs.FinMap as finite
use Rattle.rds_life.specs.Killed.{but_for, killed_by}
use Rattle.rds_tree.specs.Held.{among_any, among_held}
use Rattle.rds_tree.proofs.HeldLeaves.{among_values}
use Rattle.rds_tree.proofs.Killing.{killed_never, killed_same}
use Rattle.rds_tree.proofs.by_value.ByValue.kill.Goals as goal

pub returns : goal.returns
returns g c d =
    let but = c.args.but in
    let each : c.into_iter-dots-iterator.result ≡ map (λ x. x.1) c.self.inside.values.entries = c.into_iter-dots-iterator.ensures.into_iter_gives ∙ c.values-dots-items.ensures.rest in
    let last : finite.get c.loop-dots.lives d ≡ killed_by (but_for but (among_any c.loop-dots.dots-iterator)) d (finite.get c.loop-dots.lives d) =
    sym (killed_never (among_any c.loop-dots.dots-iterator) but d (finite.get c.loop-dots.lives d) (λ e. ap (λ ls. among_any ls d e) c.in-None.ensures.steps.0)) in
    last ∙ c.loop-dots.invariant d
    ∙ killed_same (among_any c.into_iter-dots-iterator.result) (among_held (λ v. true) c.args.self.now) but d (finite.get c.args.lives.now d)
    (λ e. ap (λ ls. among_any ls d e) each ∙ among_values c.self.inside.values.entries d e ∙ ap (λ held. among_held (λ v. true) held d e) c.self.view_is)
