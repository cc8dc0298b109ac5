-- A map's entries as rows.
use Rattle.std.proofs.Common.{◌≡◌, suc, true, false, not, cond, List, [], ◌∷◌, ◌++◌, append_assoc, length, Some, refl}
use Rattle.std.proofs.Common.{sym, ◌∙◌, ap}
use Rattle.std.specs.List.{list_all, AllByRecursion}
use Rattle.std.specs.List.Sorted.{IsStrictlySortedBy}
use Rattle.std.specs.Ordering.{eq_by_cmp, is_eq, is_lt, match_ordering}
use Rattle.std.specs.declared.cmp.Ordering.TheVariants.{Less, Equal, Greater}
use Rattle.std.specs.Map.{lookup, remove_entry}
use Rattle.std.specs.BTreeMap.{insert_entry}
use Rattle.std.specs.FinMap as map
use Rattle.std.specs.FinMap.Entries.{by_order}
use Rattle.rds_names.specs.declared.entry.Entry.{Entry}
use Rattle.rds_names.specs.Conditions.{and_true}
use Rattle.rds_dots.specs.declared.dot.Dot.{Dot}
use Rattle.rds_dots.specs.Dots.{dot_cmp}
use Rattle.rds_dots.specs.Ascending.{ascends, is_above}
use Rattle.rds_dots.specs.Sets.{tied_dots_are_one}
use Rattle.rds_life.specs.Life.{keys}
use Rattle.rds_life.specs.Removed.{rows_without}
use Rattle.rds_life.proofs.Puts.{put_before}

abbrev Rows : Type 0
Rows = List (Dot × Entry)

pub lookup-find : (d : Dot) (rows : Rows) → lookup (λ x. is_eq (dot_cmp d x)) rows ≡ map.find dot_cmp d rows
lookup-find d [] = refl
lookup-find d (r ∷ rows) = ap (λ o. cond (eq_by_cmp dot_cmp d r.0) (Some r.1) o) (lookup-find d rows)

pub insert-put : (d : Dot) (e : Entry) (rows : Rows) → insert_entry dot_cmp rows d e ≡ map.put dot_cmp d e rows
insert-put d e [] = refl
insert-put d e (r ∷ rows) =
    elim (dot_cmp d r.0) as (λ o. dot_cmp d r.0 ≡ o → match_ordering o ((d, e) ∷ r ∷ rows) ((r.0, e) ∷ rows) (r ∷ insert_entry dot_cmp rows d e) ≡ by_order o ((d, e) ∷ r ∷ rows) ((r.0, e) ∷ rows) (r ∷ map.put dot_cmp d e rows)) [
      | Less ↦ λ _. refl
      | Equal ↦ λ _. refl
      | Greater ↦ λ _. ap (λ xs. r ∷ xs) (insert-put d e rows)
    ] refl

-- the last row of a list, moved to the front of the map that has those behind it
pub moved_on : (all list left moved later : Rows) (r : Dot × Entry) → ascends (keys all) ≡ true → list ≡ left ++ r ∷ [] → list ++ moved ≡ all → later ≡ insert_entry dot_cmp moved r.0 r.1 → (left ++ later ≡ all) × (length later ≡ suc (length moved))
moved_on all list left moved later r rise last whole is =
    let parts = sym (append_assoc left (r ∷ []) moved) ∙ ap (λ l. l ++ moved) (sym last) ∙ whole in
    let put = is ∙ insert-put r.0 r.1 moved ∙ put_before all left moved r rise parts in
    (ap (λ l. left ++ l) put ∙ parts, ap length put)

-- strictly sorted keys ascend
all_above : (d : Dot) (rows : Rows) → AllByRecursion (λ y. dot_cmp d y ≡ Less) (keys rows) → list_all (is_above d) (keys rows) ≡ true
all_above d [] h = refl
all_above d (r ∷ rows) h = and_true _ _ (ap is_lt h.0) (all_above d rows h.1)

pub rises : (rows : Rows) → IsStrictlySortedBy dot_cmp (keys rows) → ascends (keys rows) ≡ true
unfolding IsStrictlySortedBy
rises [] h = refl
rises (r ∷ rows) h = and_true _ _ (all_above r.0 rows h.0) (rises rows h.1)

no_other : (d : Dot) (rows : Rows) → AllByRecursion (λ y. dot_cmp d y ≡ Less) (keys rows) → rows_without d rows ≡ rows
no_other d [] h = refl
no_other d (r ∷ rows) h = ap (λ o. cond (not (is_eq o)) (r ∷ rows_without d rows) (rows_without d rows)) h.0 ∙ ap (λ xs. r ∷ xs) (no_other d rows h.1)

pub remove-without : (d : Dot) (rows : Rows) → IsStrictlySortedBy dot_cmp (keys rows) → remove_entry (λ x. is_eq (dot_cmp d x)) rows ≡ rows_without d rows
unfolding IsStrictlySortedBy
remove-without d [] h = refl
remove-without d (r ∷ rows) h =
    elim (eq_by_cmp dot_cmp d r.0) as (λ b. eq_by_cmp dot_cmp d r.0 ≡ b → cond b rows (r ∷ remove_entry (λ x. is_eq (dot_cmp d x)) rows) ≡ cond (not b) (r ∷ rows_without d rows) (rows_without d rows)) [
      | true ↦ λ is. sym (ap (λ q. rows_without q rows) (tied_dots_are_one d r.0 is) ∙ no_other r.0 rows h.0)
      | false ↦ λ _. ap (λ xs. r ∷ xs) (remove-without d rows h.1)
    ] refl
