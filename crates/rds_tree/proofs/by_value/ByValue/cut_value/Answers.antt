use Rattle.std.proofs.Common.{◌≡◌, [], not, ◌&&◌, ◌∙◌, ap, sym}
use Rattle.std.specs.Map.{remove_entry, set_value}
use Rattle.rds_tree.specs.Row.{are_full}
use Rattle.rds_tree.specs.Held.{any_held, at_value, means}
use Rattle.rds_tree.proofs.Cutting.{full_of, not_full}
use Rattle.rds_tree.proofs.Grouped.{any-removed, cut_none, cut_some, full-removed, full-set_value}
use Rattle.rds_names.proofs.Orders.{scalars_exact}
use Rattle.rds_tree.proofs.by_value.ByValue.cut_value.Goals as goal

pub invariant_of-self-then-is_empty : goal.invariant_of-self-then-is_empty
invariant_of-self-then-is_empty c =
    let at = at_value c.args.value.now in
    ap are_full (c.remove_value.ensures ∙ ap (remove_entry at) (c.get_mut.follows.holds c.cut.new.self).0)
    ∙ full-removed at c.cut.new.self c.self.inside.values.entries c.self.invariant

pub invariant_of-self-else-is_empty : goal.invariant_of-self-else-is_empty
invariant_of-self-else-is_empty c =
    ap are_full (c.get_mut.follows.holds c.cut.new.self).0
    ∙ full-set_value (at_value c.args.value.now) c.cut.new.self c.self.inside.values.entries (full_of c.cut.new.self c.is_empty.result c.is_empty.ensures c.if-is_empty.false) c.self.invariant

pub returns-in-None : goal.returns-in-None
returns-in-None c t =
    let value = c.args.value.now in
    let which = c.args.which in
    ap (any_held t) (ap (λ m. m.entries) c.get_mut.follows.holds-at-none)
    ∙ cut_none scalars_exact value (means which) t c.self.inside.values.entries (sym c.in-None.ensures.value)
    ∙ ap (any_held (λ v d. t v d && not (at_value value v && means which d))) c.self.view_is

pub returns-then-is_empty : goal.returns-then-is_empty
returns-then-is_empty c t =
    let value = c.args.value.now in
    let which = c.args.which in
    let held = c.self.inside.values.entries in
    let none : c.cut.new.self ≡ [] = not_full c.cut.new.self c.is_empty.result c.is_empty.ensures c.if-is_empty.true in
    ap (any_held t) (c.remove_value.ensures ∙ ap (remove_entry (at_value value)) ((c.get_mut.follows.holds c.cut.new.self).0 ∙ ap (set_value (at_value value) held) none))
    ∙ any-removed (at_value value) t held
    ∙ ap (λ dots. any_held t (set_value (at_value value) held dots)) (sym none ∙ c.cut.ensures)
    ∙ cut_some scalars_exact value (means which) t c.in-Some.dots.now held c.in-Some.ensures.ordered (sym c.in-Some.ensures.value)
    ∙ ap (any_held (λ v d. t v d && not (at_value value v && means which d))) c.self.view_is

pub returns-else-is_empty : goal.returns-else-is_empty
returns-else-is_empty c t =
    let value = c.args.value.now in
    let which = c.args.which in
    let held = c.self.inside.values.entries in
    ap (any_held t) ((c.get_mut.follows.holds c.cut.new.self).0 ∙ ap (set_value (at_value value) held) c.cut.ensures)
    ∙ cut_some scalars_exact value (means which) t c.in-Some.dots.now held c.in-Some.ensures.ordered (sym c.in-Some.ensures.value)
    ∙ ap (any_held (λ v d. t v d && not (at_value value v && means which d))) c.self.view_is
