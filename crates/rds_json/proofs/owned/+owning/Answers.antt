use Rattle.std.proofs.Common.{◌≡◌, ◌∷◌, ◌++◌, ◌+◌, ◌∙◌, [], suc, drop, map, Some, option_map, ap, sym, arith, drop-cons, add-one}
use Rattle.std.proofs.lemmas.List.{drop_all, map-append}
use Rattle.json.specs.Json as json
use Rattle.json.specs.Value as borrowed
use Rattle.json.proofs.Trees as trees
use Rattle.serde_json.specs.Data.{object}
use Rattle.serde_json.specs.Read.{of_json, of_items}
use Rattle.serde_json.specs.View.{view}
use Rattle.serde_json.proofs.Views.{view-Object}
use Rattle.rds_json.proofs.ReadItems.{before, before_none, item_owned}
use Rattle.rds_json.proofs.owned.+owning.Goals as goal

pub owned-returns-in_err-owned_members-in-Object-clause-err : goal.owned-returns-in_err-owned_members-in-Object-clause-err
owned-returns-in_err-owned_members-in-Object-clause-err t c =
    let m = c.in-Object.members in
    let is : borrowed.value_view c.args.value.now ≡ json.object (borrowed.members_view c.deref-in-Object.result.now) =
    ap borrowed.value_view c.in-Object.is ∙ trees.view-Object m ∙ ap (λ ms. json.object (borrowed.members_view ms)) (sym c.deref-in-Object.ensures.value) in
    rw is (grind (arith, c.in_err-owned_members-in-Object.ensures.err, c.from_residual-in_err-owned_members-in-Object.ensures))

pub owned-returns-in_ok-owned_members-in-Object-clause-ok : goal.owned-returns-in_ok-owned_members-in-Object-clause-ok
owned-returns-in_ok-owned_members-in-Object-clause-ok t c =
    let m = c.in-Object.members in
    let found = c.in_ok-owned_members-in-Object in
    let is : borrowed.value_view c.args.value.now ≡ json.object (borrowed.members_view c.deref-in-Object.result.now) =
    ap borrowed.value_view c.in-Object.is ∙ trees.view-Object m ∙ ap (λ ms. json.object (borrowed.members_view ms)) (sym c.deref-in-Object.ensures.value) in
    ap of_json is ∙ ap (option_map object) found.ensures.ok ∙ ap Some (sym (view-Object found.field-0))

pub owned_items-loop-item-preserved : goal.owned_items-loop-item-preserved
owned_items-loop-item-preserved t c =
    let l = c.loop-item in
    let xs = c.args.items.now in
    let i = l.item-index in
    let x = c.item-item.result in
    let v = c.in_ok-owned.field-0 in
    let done = map view l.found.items in
    let later = borrowed.items_view (drop (i + 1) xs) in
    let rest : drop i xs ≡ x ∷ drop (i + 1) xs = rw add-one (drop-cons xs i x c.loop-item-test.true ∙ ap (λ y. y ∷ drop (suc i) xs) (sym c.item-item.is)) in
    let pushed : map view c.push.new.self.items ≡ done ++ view v ∷ [] = ap (map view) c.in_ok-push.ensures.items ∙ map-append view l.found.items (v ∷ []) in
    ap (λ ds. option_map (before ds) (of_items later)) pushed
    ∙ sym (item_owned done (view v) (borrowed.value_view x) later c.in_ok-owned.ensures.ok)
    ∙ ap (λ ys. option_map (before done) (of_items (borrowed.items_view ys))) (sym rest)
    ∙ l.invariant

pub owned_items-returns-clause-ok : goal.owned_items-returns-clause-ok
owned_items-returns-clause-ok t c =
    let l = c.loop-item in
    let over : drop l.item-index c.args.items.now ≡ [] = drop_all l.item-index c.args.items.now c.loop-item-test.false in
    sym l.invariant ∙ ap (λ ys. option_map (before (map view l.found.items)) (of_items (borrowed.items_view ys))) over ∙ ap Some (before_none (map view l.found.items))
