use Rattle.std.proofs.Common.{◌≡◌, ℕ, List, Some, Result, Ok, Err, ap, sym, length, ◌∙◌}
use Rattle.std.specs.Prelude.{IfOk, slice_get}
use Rattle.std.proofs.lemmas.Bool.{ltb-true}
use Rattle.std.proofs.lemmas.Option.{slice_get-get_or}
use Rattle.rds_bytes.specs.Table.{table_number}
use Rattle.rds_bytes.proofs.TableLaws.{number_at_place}
use Rattle.rds_bytes.proofs.tables.Table.find.Goals as goal

if_ok : {T E : Type 0} (P Q : T → Type 0) (r : Result T E) → ((x : T) → P x → Q x) → IfOk r P → IfOk r Q
if_ok P Q (Ok x) f h = f x h
if_ok P Q (Err e) f h = tt

pub returns-in-Some-clause-place : goal.returns-in-Some-clause-place
returns-in-Some-clause-place c =
    let found = c.in-Some.found.now in
    let number = c.args.number in
    let keys = c.self.inside.keys.items in
    let shown = c.deref.result.now in
    let same : c.args.self.now ≡ keys = sym c.self.view_is in
    let slice : shown ≡ keys = c.deref.ensures.value in
    let there = c.in-Some.ensures.lookup in
    let at : slice_get shown number ≡ Some found = slice_get-get_or shown number found (ltb-true number (length shown) (sym there.0)) ∙ ap (λ (k : List ℕ). Some k) (sym there.1) in
    let at_keys : slice_get keys number ≡ Some found = ap (λ (t : List (List ℕ)). slice_get t number) (sym slice) ∙ at in
    if_ok (λ key. key ≡ found) _ c.copy.result
    (λ key is. ap (λ (t : List (List ℕ)). table_number t key) same ∙ number_at_place keys number key c.self.invariant (at_keys ∙ ap (λ (k : List ℕ). Some k) (sym is)))
    c.copy.ensures.ok
