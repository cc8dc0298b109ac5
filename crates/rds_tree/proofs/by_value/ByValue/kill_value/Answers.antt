use Rattle.std.proofs.Common.{◌∙◌, ap, sym}
use Rattle.std.specs.FinMap as map
use Rattle.std.specs.Ordering.{eq_by_cmp}
use Rattle.rds_dots.specs.Dots.{dot_cmp}
use Rattle.rds_tree.specs.Held.{among_dots, among_held, at_value}
use Rattle.rds_tree.proofs.Grouped.{found_none, found_some}
use Rattle.rds_tree.proofs.Killing.{killed_never, killed_same}
use Rattle.rds_names.proofs.Orders.{scalars_exact}
use Rattle.rds_tree.proofs.by_value.ByValue.kill_value.Goals as goal

pub returns-in-None : goal.returns-in-None
returns-in-None g c d =
    let value = c.args.value.now in
    sym (killed_never (among_held (at_value value) c.args.self.now) c.args.but d (map.get c.args.lives.now d)
    (λ e. ap (λ held. among_held (at_value value) held d e) (sym c.self.view_is) ∙ found_none scalars_exact value (λ x. eq_by_cmp dot_cmp x d) c.self.inside.values.entries (sym c.in-None.ensures.value)))

pub returns-in-Some : goal.returns-in-Some
returns-in-Some g c d =
    let value = c.args.value.now in
    let dots = c.in-Some.dots.now in
    c.kill.ensures d
    ∙ killed_same (among_dots dots) (among_held (at_value value) c.args.self.now) c.args.but d (map.get c.args.lives.now d)
    (λ e. found_some scalars_exact value (λ x. eq_by_cmp dot_cmp x d) dots c.self.inside.values.entries c.len-in_order.ensures.ordered (sym c.in-Some.ensures.value)
    ∙ ap (λ held. among_held (at_value value) held d e) c.self.view_is)
