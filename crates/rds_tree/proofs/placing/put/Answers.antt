use Rattle.std.proofs.Common.{◌∙◌, List, [], ℕ, ap, length, subst, sym, Some}
use Rattle.rds_dots.specs.declared.dot.Dot.{Dot}
use Rattle.rds_life.specs.Life.{live_rows}
use Rattle.rds_names.specs.declared.scalar.Scalar.{Scalar}
use Rattle.rds_state.specs.Chosen.{CommandParts}
use Rattle.rds_state.specs.Fits.{ReplicaValue}
use Rattle.rds_tree.specs.Cuts.{covered_leaf, covering, found_at, is_deep, IsCut}
use Rattle.rds_tree.specs.Growing.{Holds}
use Rattle.rds_tree.specs.Held.{IsGathered}
use Rattle.rds_tree.specs.Marks.{marks_at}
use Rattle.rds_tree.specs.Row.{leaf_row, AddsRow}
use Rattle.rds_tree.specs.declared.leaf.Leaf.{Leaf}
use Rattle.rds_tree.proofs.Holding.{finds_gathered, holds_made, holds_undone, none_cut, shallow_parts}
use Rattle.rds_tree.proofs.MarkEdits.{covered_marks, going_made}
use Rattle.rds_tree.proofs.placing.put.Goals as goal

pub edit_found-requires : goal.edit_found-requires
edit_found-requires g c =
    let p : CommandParts = record { path = c.args.placed.path.now; kind = c.args.placed.kind; value = c.args.placed.value.now } in
    let command = c.args.command.now in
    let tree = c.args.tree.now in
    let found = found_at (covered_leaf command) (is_deep command) c.keys.result.now tree in
    let begun : IsGathered found [] c.place.new.dots.items = subst (λ (ds : List Dot). IsGathered found ds c.place.new.dots.items) c.new-dots.ensures.items c.in_ok-place.ensures.gathered in
    record {
      found = finds_gathered command c.keys.result.now c.args.replica.now.state.lives tree c.deref-2.result.now (c.keys.ensures.keys ∙ (shallow_parts command p c.requires.parts).1) c.requires.holds
          (subst (λ (ds : List Dot). IsGathered found [] ds) (sym c.deref-2.ensures.value) begun);
    }

pub cut_covered-requires : goal.cut_covered-requires
cut_covered-requires g c =
    let p : CommandParts = record { path = c.args.placed.path.now; kind = c.args.placed.kind; value = c.args.placed.value.now } in
    let command = c.args.command.now in
    let tree = c.args.tree.now in
    let mid = c.place.new.self in
    let new = c.in_ok-dot.dot in
    let found : List (List ℕ) → Dot → _ = λ q. found_at (covered_leaf command) (is_deep command) q tree in
    let begun : IsGathered (found p.path) [] c.place.new.dots.items =
    subst (λ q. IsGathered (found q) [] c.place.new.dots.items) c.keys.ensures.keys
    (subst (λ (ds : List Dot). IsGathered (found c.keys.result.now) ds c.place.new.dots.items) c.new-dots.ensures.items c.in_ok-place.ensures.gathered) in
    let adds : AddsRow tree (leaf_row p.path (record { kind = p.kind; value = p.value; dot = new })) mid =
    subst (λ q. AddsRow tree (leaf_row q (record { kind = p.kind; value = p.value; dot = new })) mid)
    c.keys.ensures.keys
    (subst (λ (v : Scalar). AddsRow tree (leaf_row c.keys.result.now (record { kind = p.kind; value = v; dot = new })) mid) c.in_ok-copy.ensures.ok c.in_ok-place.ensures.ok) in
    record {
      none = λ empty.
          let none : IsGathered (found p.path) [] [] = subst (λ (ds : List Dot). IsGathered (found p.path) [] ds) (sym c.deref-in-Ok.ensures.value ∙ empty) begun in
          subst (λ q. IsCut (covering command (Some new)) (is_deep command) q mid mid) (sym c.keys-in-Ok.ensures.keys)
          (none_cut command p c.requires.parts c.args.replica.now.state c.args.replica.now.own new c.in_ok-dot.ensures.unseen tree mid c.requires.holds adds (λ d e. sym (none.any d e)));
    }

pub returns-in-Ok-clause-holds : goal.returns-in-Ok-clause-holds
returns-in-Ok-clause-holds g c =
    let p : CommandParts = record { path = c.args.placed.path.now; kind = c.args.placed.kind; value = c.args.placed.value.now } in
    let old = c.args.replica.now in
    let command = c.args.command.now in
    let tree = c.args.tree.now in
    let mid = c.place.new.self in
    let new = c.in_ok-dot.dot in
    let adds : AddsRow tree (leaf_row p.path (record { kind = p.kind; value = p.value; dot = new })) mid =
    subst (λ q. AddsRow tree (leaf_row q (record { kind = p.kind; value = p.value; dot = new })) mid)
    c.keys.ensures.keys
    (subst (λ (v : Scalar). AddsRow tree (leaf_row c.keys.result.now (record { kind = p.kind; value = v; dot = new })) mid) c.in_ok-copy.ensures.ok c.in_ok-place.ensures.ok) in
    holds_made command p c.requires.parts old.state old.own new c.in_ok-dot.ensures.unseen c.edit_found.new.self.state tree mid c.cut_covered.new.tree c.in_ok-dot.ensures.exact.1 c.requires.holds adds
    (subst (λ q. IsCut (covering command (Some new)) (is_deep command) q mid c.cut_covered.new.tree) c.keys-in-Ok.ensures.keys c.cut_covered.ensures) c.in-Ok.ensures.edited.joined

pub returns-in-Ok-clause-marked : goal.returns-in-Ok-clause-marked
returns-in-Ok-clause-marked g c =
    let p : CommandParts = record { path = c.args.placed.path.now; kind = c.args.placed.kind; value = c.args.placed.value.now } in
    let old = c.args.replica.now in
    let command = c.args.command.now in
    let dots = c.place.new.dots.items in
    let found = found_at (covered_leaf command) (is_deep command) c.keys.result.now c.args.tree.now in
    let begun : IsGathered found [] dots = subst (λ (ds : List Dot). IsGathered found ds dots) c.new-dots.ensures.items c.in_ok-place.ensures.gathered in
    c.mark_after.ensures old c.requires.marked c.of-going.ensures.rows c.in-Ok.ensures (λ many.
    c.of-going.ensures.mark ∙ ap (marks_at old.state.lives) c.deref.ensures.value
    ∙ covered_marks command c.keys.result.now old.state.lives c.args.tree.now dots (c.keys.ensures.keys ∙ (shallow_parts command p c.requires.parts).1) c.requires.holds begun
    (sym (ap length c.deref.ensures.value) ∙ sym c.of-going.ensures.dots ∙ many ∙ c.in-Ok.ensures.edited.killed)
    ∙ sym (going_made command p c.requires.parts old))

pub returns-clause-holds : goal.returns-clause-holds
returns-clause-holds g c =
    let old = c.args.replica.now in
    let tree = c.args.tree.now in
    let mid = c.place.new.self in
    let new = c.in_ok-dot.dot in
    let leaf : Leaf = record { kind = c.args.placed.kind; value = c.args.placed.value.now; dot = new } in
    let adds : AddsRow tree (leaf_row c.keys-in-Err.result.now leaf) mid =
    subst (λ q. AddsRow tree (leaf_row q leaf) mid) (c.keys.ensures.keys ∙ sym c.keys-in-Err.ensures.keys)
    (subst (λ (v : Scalar). AddsRow tree (leaf_row c.keys.result.now (record { kind = c.args.placed.kind; value = v; dot = new })) mid) c.in_ok-copy.ensures.ok c.in_ok-place.ensures.ok) in
    subst (λ (v : ReplicaValue). Holds (live_rows v.state.lives) c.cut.new.self) (sym c.in-Err.ensures.err)
    (holds_undone old.state.lives c.keys-in-Err.result.now leaf tree mid c.cut.new.self c.in_ok-dot.ensures.unseen c.requires.holds adds c.cut.ensures)
