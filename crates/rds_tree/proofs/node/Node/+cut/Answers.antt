use Rattle.std.proofs.Common.{sym, ◌∙◌, ap, refl, rules}
use Rattle.std.specs.Map.{remove_entry}
use Rattle.std.specs.Ordering.{is_eq}
use Rattle.rds_names.specs.Key.{key_cmp}
use Rattle.rds_tree.specs.Row.{are_full}
use Rattle.rds_tree.proofs.Cutting.{cut_leaves, cut_whole, empty_rows, cut_none, cut_some, cut_all, not_full, full_of}
use Rattle.rds_tree.proofs.Grouped.{full-removed, full-set_value}
use Rattle.rds_tree.proofs.node.Node.+cut.Goals as goal

pub returns-in-None-get_mut : goal.returns-in-None-get_mut
returns-in-None-get_mut g t c =
    cut_none _ _ _ c.in-Some.key.now c.in-Some.rest.now _ _ c.self.inside.leaves c.self.inside.children.entries c.get_mut.follows.lender-at-none.entries c.in-Some.ensures.cases.0 c.self.view_is refl
    (ap (λ m. m.entries) c.get_mut.follows.holds-at-none) c.in-None-get_mut.ensures.value

pub invariant_of-self-then-is_empty : goal.invariant_of-self-then-is_empty
invariant_of-self-then-is_empty g t c =
    ap are_full (c.remove_child.ensures ∙ ap (remove_entry (λ x. is_eq (key_cmp c.in-Some.key.now x))) (c.get_mut.follows.holds c.cut.new.self).0)
    ∙ full-removed _ c.cut.new.self c.self.inside.children.entries c.self.invariant

pub invariant_of-self-else-is_empty : goal.invariant_of-self-else-is_empty
invariant_of-self-else-is_empty g t c =
    ap are_full (c.get_mut.follows.holds c.cut.new.self).0
    ∙ full-set_value _ c.cut.new.self c.self.inside.children.entries (full_of c.cut.new.self c.is_empty.result c.is_empty.ensures c.if-is_empty.false) c.self.invariant

pub returns-then-is_empty : goal.returns-then-is_empty
returns-then-is_empty g t c =
    cut_all _ _ _ c.in-Some.key.now c.in-Some.rest.now _ _ c.in-Some-get_mut.child.now c.cut.new.self c.self.inside.leaves c.self.inside.children.entries (c.get_mut.follows.lender c.cut.new.self).entries c.remove_child.new.children.entries
    c.in-Some.ensures.cases.0 c.self.view_is refl (c.get_mut.follows.holds c.cut.new.self).0 c.remove_child.ensures (not_full c.cut.new.self c.is_empty.result c.is_empty.ensures c.if-is_empty.true)
    c.in-Some-get_mut.ensures.value c.in-Some-get_mut.ensures.ordered c.cut.ensures

pub returns-else-is_empty : goal.returns-else-is_empty
returns-else-is_empty g t c =
    cut_some _ _ _ c.in-Some.key.now c.in-Some.rest.now _ _ c.in-Some-get_mut.child.now c.cut.new.self c.self.inside.leaves c.self.inside.children.entries (c.get_mut.follows.lender c.cut.new.self).entries
    c.in-Some.ensures.cases.0 c.self.view_is refl (c.get_mut.follows.holds c.cut.new.self).0 c.in-Some-get_mut.ensures.value c.in-Some-get_mut.ensures.ordered c.cut.ensures

pub returns-then-goes_deep : goal.returns-then-goes_deep
returns-then-goes_deep g t c =
    cut_whole _ _ _ _ _ (sym c.goes_deep.ensures ∙ c.if-goes_deep.true) c.in-None.ensures.cases (empty_rows c.clear.new.self c.clear-then-goes_deep.new.self.entries (search rules) (search rules))

pub returns-else-goes_deep : goal.returns-else-goes_deep
returns-else-goes_deep g t c =
    cut_leaves _ _ _ _ _ c.self.inside.leaves c.cut_from.new.leaves c.self.inside.children.entries (sym c.goes_deep.ensures ∙ c.if-goes_deep.false) c.in-None.ensures.cases c.self.view_is c.cut_from.ensures refl
