use Rattle.std.proofs.Common.{◌≡◌, ◌||◌, sym, ◌∙◌, ap}
use Rattle.std.specs.BTreeMap.{insert_entry}
use Rattle.std.specs.Map.{set_value}
use Rattle.rds_names.specs.Orders.{scalar_cmp}
use Rattle.rds_tree.specs.Held.{any_held, at_value}
use Rattle.rds_tree.specs.Row.{is_filled, are_full}
use Rattle.rds_tree.proofs.Adding.{on_ok, on_err}
use Rattle.rds_tree.proofs.Grouped.{any-grown, any-inserted, full-inserted, full-pushed, set_value-same}
use Rattle.rds_names.proofs.Orders.{scalars_exact}
use Rattle.rds_tree.proofs.by_value.ByValue.insert.Goals as goal

pub invariant_of-self : goal.invariant_of-self
invariant_of-self c =
    full-pushed (at_value c.args.value) c.push.result c.args.dot _ _ c.self.inside.values.entries _ c.push.ensures.ok c.push.ensures.err c.self.invariant (sym c.in-Some.ensures.value) (c.get_mut.follows.holds c.push.new.self).0

pub returns-in-Some-clause-ok : goal.returns-in-Some-clause-ok
returns-in-Some-clause-ok c =
    on_ok c.push.result (λ pushed t.
    ap (any_held t) ((c.get_mut.follows.holds c.push.new.self).0 ∙ ap (set_value (at_value c.args.value) c.self.inside.values.entries) pushed)
    ∙ any-grown scalars_exact c.args.value t c.args.dot c.in-Some.dots.now c.self.inside.values.entries (sym c.in-Some.ensures.value)
    ∙ ap (λ es. t c.args.value c.args.dot || any_held t es) c.self.view_is) c.push.ensures.ok

pub returns-in-Some-clause-err : goal.returns-in-Some-clause-err
returns-in-Some-clause-err c =
    on_err c.push.result (λ same.
    (c.get_mut.follows.holds c.push.new.self).0 ∙ ap (set_value (at_value c.args.value) c.self.inside.values.entries) same
    ∙ set_value-same (at_value c.args.value) c.in-Some.dots.now c.self.inside.values.entries (sym c.in-Some.ensures.value) ∙ c.self.view_is) c.push.ensures.err

pub invariant_of-self-2 : goal.invariant_of-self-2
invariant_of-self-2 c =
    let held = c.self.inside.values.entries in
    let grown : c.insert.new.self.entries ≡ insert_entry scalar_cmp held c.args.value c.in_ok-dots.dots = c.in_ok-insert.ensures.entries ∙ ap (λ m. insert_entry scalar_cmp m.entries c.args.value c.in_ok-dots.dots) c.get_mut.follows.holds-at-none in
    ap are_full grown ∙ full-inserted scalar_cmp c.args.value c.in_ok-dots.dots held (ap is_filled c.in_ok-dots.ensures.ok) c.self.invariant

pub returns-clause-ok : goal.returns-clause-ok
returns-clause-ok c t =
    let held = c.self.inside.values.entries in
    let grown : c.insert.new.self.entries ≡ insert_entry scalar_cmp held c.args.value c.in_ok-dots.dots = c.in_ok-insert.ensures.entries ∙ ap (λ m. insert_entry scalar_cmp m.entries c.args.value c.in_ok-dots.dots) c.get_mut.follows.holds-at-none in
    ap (any_held t) (grown ∙ ap (insert_entry scalar_cmp held c.args.value) c.in_ok-dots.ensures.ok)
    ∙ any-inserted scalars_exact c.args.value t c.args.dot held (sym c.in_default.ensures.value)
    ∙ ap (λ es. t c.args.value c.args.dot || any_held t es) c.self.view_is
