use Rattle.std.proofs.Common.{◌≡◌, sym, ◌∙◌, ap, subst, refl}
use Rattle.std.specs.BTreeMap.{insert_entry}
use Rattle.rds_tree.specs.Cuts.{among_leaves, covered_leaf, found_at, is_deep}
use Rattle.rds_names.specs.Key.{key_cmp}
use Rattle.rds_tree.specs.Row.{rows_in_node, leaf_row, AddsRow, is_filled, are_full}
use Rattle.rds_tree.proofs.Adding.{adds_leaf_at, adds_below, adds_child_at, grown_full, on_ok, on_err, written_back}
use Rattle.rds_tree.proofs.Gathering.{gathers_none, gathers_same, gathers_same_if}
use Rattle.rds_tree.proofs.Grouped.{full-inserted}
use Rattle.rds_tree.proofs.Killing.{found_child, found_here, found_none}
use Rattle.rds_tree.proofs.node.Node.+place.Goals as goal

pub invariant_of-self-in-Some-get_mut : goal.invariant_of-self-in-Some-get_mut
invariant_of-self-in-Some-get_mut t c =
    grown_full c.place.result _ c.self.inside.children.entries _ _ _ _ c.place.ensures.ok c.place.ensures.err c.self.invariant c.in-Some-get_mut.ensures.value
    (c.get_mut.follows.holds c.place.new.self).0

pub returns-in-Some-get_mut-clause-gathered : goal.returns-in-Some-get_mut-clause-gathered
returns-in-Some-get_mut-clause-gathered t c =
    let picks = covered_leaf c.args.command.now in
    let deep = is_deep c.args.command.now in
    gathers_same_if c.place.result (found_at picks deep c.in-Some.rest.now c.in-Some-get_mut.child.now) (found_at picks deep c.args.path.now c.args.self.now) c.args.dots.now.items c.place.new.dots.items
    (λ d e. found_child picks deep c.in-Some.key.now c.in-Some.rest.now d e c.args.path.now c.args.self.now c.in-Some-get_mut.child.now c.self.inside.leaves c.self.inside.children.entries c.in-Some.ensures.cases.0 c.self.view_is c.in-Some-get_mut.ensures.ordered c.in-Some-get_mut.ensures.value)
    c.place.ensures.gathered

pub returns-in-Some-get_mut-clause-ok : goal.returns-in-Some-get_mut-clause-ok
returns-in-Some-get_mut-clause-ok t c =
    on_ok c.place.result (λ adds. subst (λ path. AddsRow c.args.self.now (leaf_row path c.args.leaf) (rows_in_node c.self.inside.leaves (c.get_mut.follows.lender c.place.new.self).entries)) (sym c.in-Some.ensures.cases.0)
    (adds_below _ _ c.self.inside.leaves c.self.inside.children.entries c.in-Some.key.now c.in-Some.rest.now c.args.leaf _ _ c.self.view_is
    (ap (rows_in_node c.self.inside.leaves) (sym (c.get_mut.follows.holds c.place.new.self).0)) (sym c.in-Some-get_mut.ensures.value) adds)) c.place.ensures.ok

pub returns-in-Some-get_mut-clause-err : goal.returns-in-Some-get_mut-clause-err
returns-in-Some-get_mut-clause-err t c =
    on_err c.place.result (λ same. written_back _ c.self.inside.leaves c.self.inside.children.entries _ _ _ _ c.self.view_is c.in-Some-get_mut.ensures.value (c.get_mut.follows.holds c.place.new.self).0 same) c.place.ensures.err

pub invariant_of-self-in-Some : goal.invariant_of-self-in-Some
invariant_of-self-in-Some t c =
    let e : c.insert-in-Some.new.self.entries ≡ insert_entry key_cmp c.self.inside.children.entries c.in_ok-copy-in-Some.field-0 c.in_ok-child-in-Some.child =
    c.in_ok-insert-in-Some.ensures.entries ∙ ap (λ m. insert_entry key_cmp m.entries c.in_ok-copy-in-Some.field-0 c.in_ok-child-in-Some.child) c.get_mut.follows.holds-at-none in
    ap are_full e ∙ full-inserted key_cmp c.in_ok-copy-in-Some.field-0 c.in_ok-child-in-Some.child c.self.inside.children.entries (ap is_filled c.in_ok-child-in-Some.ensures.ok) c.self.invariant

pub returns-in_ok-gather_covered-in-None-clause-gathered : goal.returns-in_ok-gather_covered-in-None-clause-gathered
returns-in_ok-gather_covered-in-None-clause-gathered t c =
    let picks = covered_leaf c.args.command.now in
    let deep = is_deep c.args.command.now in
    on_ok c.insert.result (λ _. gathers_same (among_leaves picks c.self.inside.leaves) (found_at picks deep c.args.path.now c.args.self.now) c.args.dots.now.items c.gather_covered.new.dots.items
    (λ d e. found_here picks deep c.args.path.now c.args.self.now c.self.inside.leaves c.self.inside.children.entries d e c.requires.shallow c.in-None.ensures.cases c.self.view_is)
    c.in_ok-gather_covered-in-None.ensures.ok) c.insert.ensures.ok

pub returns-in_ok-gather_covered-in-None-clause-ok : goal.returns-in_ok-gather_covered-in-None-clause-ok
returns-in_ok-gather_covered-in-None-clause-ok t c =
    on_ok c.insert.result (λ adds. adds_leaf_at _ _ c.self.inside.leaves c.insert.new.self c.self.inside.children.entries _ _ c.in-None.ensures.cases c.self.view_is adds refl) c.insert.ensures.ok

pub returns-in_ok-insert-in-Some-clause-gathered : goal.returns-in_ok-insert-in-Some-clause-gathered
returns-in_ok-insert-in-Some-clause-gathered t c =
    let picks = covered_leaf c.args.command.now in
    let deep = is_deep c.args.command.now in
    gathers_none (found_at picks deep c.args.path.now c.args.self.now) c.args.dots.now.items
    (λ d e. found_none picks deep c.in-Some.key.now c.in-Some.rest.now d e c.args.path.now c.args.self.now c.self.inside.leaves c.self.inside.children.entries c.in-Some.ensures.cases.0 c.self.view_is c.in_default.ensures.value)

pub returns-in_ok-insert-in-Some-clause-ok : goal.returns-in_ok-insert-in-Some-clause-ok
returns-in_ok-insert-in-Some-clause-ok t c =
    let e : c.insert-in-Some.new.self.entries ≡ insert_entry key_cmp c.self.inside.children.entries c.in_ok-copy-in-Some.field-0 c.in_ok-child-in-Some.child =
    c.in_ok-insert-in-Some.ensures.entries ∙ ap (λ m. insert_entry key_cmp m.entries c.in_ok-copy-in-Some.field-0 c.in_ok-child-in-Some.child) c.get_mut.follows.holds-at-none in
    adds_child_at _ _ c.self.inside.leaves c.self.inside.children.entries c.insert-in-Some.new.self.entries _ c.in-Some.key.now c.in_ok-copy-in-Some.field-0 c.in-Some.rest.now _ c.in_ok-child-in-Some.child c.in-Some.ensures.cases.0 c.in_ok-copy-in-Some.ensures.ok c.self.view_is
    e refl c.in_default.ensures.value c.in_ok-child-in-Some.ensures.ok
