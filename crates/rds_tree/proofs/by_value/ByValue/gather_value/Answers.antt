use Rattle.std.proofs.Common.{◌∙◌, ap, sym}
use Rattle.std.specs.Ordering.{eq_by_cmp}
use Rattle.rds_dots.specs.Dots.{dot_cmp}
use Rattle.rds_tree.specs.Held.{among_dots, among_held, at_value}
use Rattle.rds_tree.proofs.Gathering.{gathers_none, gathers_same_if}
use Rattle.rds_tree.proofs.Grouped.{found_none, found_some}
use Rattle.rds_names.proofs.Orders.{scalars_exact}
use Rattle.rds_tree.proofs.by_value.ByValue.gather_value.Goals as goal

pub returns-in-None-clause-ok : goal.returns-in-None-clause-ok
returns-in-None-clause-ok c =
    let value = c.args.value.now in
    gathers_none (among_held (at_value value) c.args.self.now) c.args.dots.now.items
    (λ d e. ap (λ held. among_held (at_value value) held d e) (sym c.self.view_is) ∙ found_none scalars_exact value (λ x. eq_by_cmp dot_cmp x d) c.self.inside.values.entries (sym c.in-None.ensures.value))

pub returns-in-Some-clause-ok : goal.returns-in-Some-clause-ok
returns-in-Some-clause-ok c =
    let value = c.args.value.now in
    let dots = c.in-Some.list.now in
    gathers_same_if c.gather.result (among_dots dots) (among_held (at_value value) c.args.self.now) c.args.dots.now.items c.gather.new.dots.items
    (λ d e. found_some scalars_exact value (λ x. eq_by_cmp dot_cmp x d) dots c.self.inside.values.entries c.len-in_order.ensures.ordered (sym c.in-Some.ensures.value)
    ∙ ap (λ held. among_held (at_value value) held d e) c.self.view_is)
    c.gather.ensures.ok
