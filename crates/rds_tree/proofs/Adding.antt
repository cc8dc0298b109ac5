-- One more row.
use Rattle.std.proofs.Common.{◌≡◌, ℕ, Bool, true, false, cond, ◌||◌, List, [], ◌∷◌, map, refl, sym, ◌∙◌, ap, subst}
use Rattle.std.proofs.Common.{length, arith}
use Rattle.std.proofs.Math.Bool.{or-false, or_assoc}
use Rattle.std.specs.Prelude.{Some, None, Result, Ok, Err, OnOk, OnErr}
use Rattle.std.specs.List.{list_any}
use Rattle.std.specs.Ordering.{is_eq, match_ordering}
use Rattle.std.specs.declared.cmp.Ordering.TheVariants.{Less, Equal, Greater}
use Rattle.std.specs.BTreeMap.{insert_entry}
use Rattle.std.specs.Map.{lookup, set_value}
use Rattle.std.specs.FinMap.{nat_cmp-IsAntisymmetric, slice_cmp-IsAntisymmetric}
use Rattle.std.proofs.lemmas.List.Folds.{list_any-append}
use Rattle.rds_names.specs.Conditions.{equal_of}
use Rattle.rds_tree.specs.declared.leaf.Leaf.{Leaf}
use Rattle.rds_names.specs.Key.{key_cmp}
use Rattle.rds_tree.specs.Row.{Row, under, at_end, rows_in_children, rows_in_node, is_filled, are_full, leaf_row}
use Rattle.rds_tree.specs.Row.{AddsRow, AddsLeaf}
use Rattle.rds_tree.proofs.Grouped.{found_full, full-set_value, set_value-same}

-- ---- lists

over : (a b c : Bool) → (a || (b || c)) ≡ (b || (a || c))
over true true c = refl
over true false c = refl
over false b c = refl

-- whether a row below a child passes
abbrev below_passes : (Row → Bool) → List ℕ × List Row → Bool
below_passes t c = list_any (λ r. t (under c.0 r)) c.1

any-map : {A B : Type 0} (t : B → Bool) (f : A → B) (xs : List A) → list_any t (map f xs) ≡ list_any (λ x. t (f x)) xs
any-map t f [] = refl
any-map t f (x ∷ xs) = ap (λ b. t (f x) || b) (any-map t f xs)

any-below : (t : Row → Bool) (cs : List (List ℕ × List Row)) → list_any t (rows_in_children cs) ≡ list_any
    (below_passes t) cs
any-below t [] = refl
any-below t (c ∷ cs) = list_any-append t (map (under c.0) c.1) (rows_in_children cs) ∙ ap (λ b. b || list_any t (rows_in_children cs)) (any-map t (under c.0) c.1) ∙ ap (λ b. below_passes t c || b) (any-below t cs)

pub any-rows : (t : Row → Bool) (leaves : List Leaf) (cs : List (List ℕ × List Row)) → list_any t (rows_in_node leaves cs) ≡ (list_any (λ l. t (at_end l)) leaves || list_any (below_passes t) cs)
any-rows t leaves cs = list_any-append t (map at_end leaves) (rows_in_children cs) ∙ ap (λ b. b || list_any t (rows_in_children cs)) (any-map t at_end leaves) ∙ ap (λ b. list_any (λ l. t (at_end l)) leaves || b) (any-below t cs)

pub adds_leaf : (old new : List Row) (leaves ls : List Leaf) (cs : List (List ℕ × List Row)) (l : Leaf) → rows_in_node leaves cs ≡ old → AddsLeaf leaves l ls → rows_in_node ls cs ≡ new → AddsRow old (leaf_row [] l) new
adds_leaf old new leaves ls cs l is grows was = record {
  any = λ t. ap (list_any t) (sym was) ∙ any-rows t ls cs ∙ ap (λ b. b || list_any (below_passes t) cs) (grows.any (λ l. t (at_end l)))
      ∙ or_assoc (t (at_end l)) _ _ ∙ ap (λ b. t (at_end l) || b) (sym (any-rows t leaves cs) ∙ ap (list_any t) is);
}

abbrev at_key : List ℕ → List ℕ → Bool
at_key k x = is_eq (key_cmp k x)

keys_exact : (k x : List ℕ) → at_key k x ≡ true → k ≡ x
keys_exact k x h = slice_cmp-IsAntisymmetric nat_cmp-IsAntisymmetric k x (equal_of _ h)

same_some : {A : Type 0} (a b : A) → Some a ≡ Some b → a ≡ b
same_some a b h = cc

-- a child of a key that grows by a row
any-set_value : (t : Row → Bool) (k : List ℕ) (path : List (List ℕ)) (l : Leaf) (old new : List Row) (cs : List (List ℕ × List Row)) → lookup (at_key k) cs ≡ Some old → AddsRow old (leaf_row path l) new
    → list_any (below_passes t) (set_value (at_key k) cs new) ≡ (t (leaf_row (k ∷ path) l) || list_any (below_passes t) cs)
any-set_value t k path l old new [] here adds = absurd (cc)
any-set_value t k path l old new (c ∷ cs) here adds =
    elim (at_key k c.0) as (λ b. at_key k c.0 ≡ b → cond b (Some c.1) (lookup (at_key k) cs) ≡ Some old → list_any (below_passes t) (cond b ((c.0, new) ∷ cs) (c ∷ set_value (at_key k) cs new)) ≡ (t (leaf_row (k ∷ path) l) || (below_passes t c || list_any (below_passes t) cs))) [
      | true ↦ λ e h.
          ap (λ b. b || list_any (below_passes t) cs) (adds.any (λ r. t (under c.0 r))) ∙ or_assoc (t (leaf_row (c.0 ∷ path) l)) _ _
          ∙ ap (λ x. t (leaf_row (x ∷ path) l) || (list_any (λ r. t (under c.0 r)) old || list_any (below_passes t) cs)) (sym (keys_exact k c.0 e))
          ∙ ap (λ rows. t (leaf_row (k ∷ path) l) || (list_any (λ r. t (under c.0 r)) rows || list_any (below_passes t) cs)) (sym (same_some c.1 old h))
      | false ↦ λ e h. ap (λ b. below_passes t c || b) (any-set_value t k path l old new cs h adds) ∙ over (below_passes t c) (t (leaf_row (k ∷ path) l)) _
    ] refl here

pub adds_below : (whole grown : List Row) (leaves : List Leaf) (cs : List (List ℕ × List Row)) (k : List ℕ) (path : List (List ℕ)) (l : Leaf) (old new : List Row)
    → rows_in_node leaves cs ≡ whole → rows_in_node leaves (set_value (at_key k) cs new) ≡ grown → lookup (at_key k) cs ≡ Some old → AddsRow old (leaf_row path l) new → AddsRow whole (leaf_row (k ∷ path) l) grown
adds_below whole grown leaves cs k path l old new is was here adds = record {
  any = λ t. ap (list_any t) (sym was) ∙ any-rows t leaves (set_value (at_key k) cs new) ∙ ap (λ b. list_any (λ l. t (at_end l)) leaves || b) (any-set_value t k path l old new cs here adds)
      ∙ over (list_any (λ l. t (at_end l)) leaves) (t (leaf_row (k ∷ path) l)) _ ∙ ap (λ b. t (leaf_row (k ∷ path) l) || b) (sym (any-rows t leaves cs) ∙ ap (list_any t) is);
}

-- a new child of one row
any-insert_entry : (t : Row → Bool) (k : List ℕ) (rows : List Row) (cs : List (List ℕ × List Row)) → lookup (at_key k) cs ≡ None → list_any (below_passes t) (insert_entry key_cmp cs k rows) ≡ (below_passes t (k, rows) || list_any (below_passes t) cs)
any-insert_entry t k rows [] none = refl
any-insert_entry t k rows (c ∷ cs) none =
    elim (key_cmp k c.0) as (λ o. key_cmp k c.0 ≡ o → cond (is_eq o) (Some c.1) (lookup (at_key k) cs) ≡ None → list_any (below_passes t) (match_ordering o ((k, rows) ∷ c ∷ cs) ((c.0, rows) ∷ cs) (c ∷ insert_entry key_cmp cs k rows)) ≡ (below_passes t (k, rows) || (below_passes t c || list_any (below_passes t) cs))) [
      | Less ↦ λ e h. refl
      | Equal ↦ λ e h. absurd (cc)
      | Greater ↦ λ e h. ap (λ b. below_passes t c || b) (any-insert_entry t k rows cs h) ∙ over (below_passes t c) (below_passes t (k, rows)) _
    ] refl none

pub adds_child : (whole grown : List Row) (leaves : List Leaf) (cs : List (List ℕ × List Row)) (k : List ℕ) (path : List (List ℕ)) (l : Leaf) (rows : List Row)
    → rows_in_node leaves cs ≡ whole → rows_in_node leaves (insert_entry key_cmp cs k rows) ≡ grown → lookup (at_key k) cs ≡ None → rows ≡ leaf_row path l ∷ [] → AddsRow whole (leaf_row (k ∷ path) l) grown
adds_child whole grown leaves cs k path l rows is was none one = record {
  any = λ t. ap (list_any t) (sym was) ∙ any-rows t leaves (insert_entry key_cmp cs k rows) ∙ ap (λ b. list_any (λ l. t (at_end l)) leaves || b) (any-insert_entry t k rows cs none)
      ∙ over (list_any (λ l. t (at_end l)) leaves) (below_passes t (k, rows)) _ ∙ ap (λ rs. below_passes t (k, rs) || (list_any (λ l. t (at_end l)) leaves || list_any (below_passes t) cs)) one
      ∙ ap (λ b. b || (list_any (λ l. t (at_end l)) leaves || list_any (below_passes t) cs)) (or-false (t (leaf_row (k ∷ path) l)))
      ∙ ap (λ b. t (leaf_row (k ∷ path) l) || b) (sym (any-rows t leaves cs) ∙ ap (list_any t) is);
}

-- ---- no child is empty

full_of_any : (rows : List Row) → list_any (λ r. true) rows ≡ true → is_filled rows ≡ true
full_of_any [] h = absurd (cc)
full_of_any (r ∷ rows) h = refl

pub adds_full : (old new : List Row) (row : Row) → AddsRow old row new → is_filled new ≡ true
adds_full old new row adds = full_of_any new (adds.any (λ r. true))

-- ---- at the ends of an insertion

pub grown_full : {A E : Type 0} (r : Result A E) (t : List ℕ → Bool) (cs ds : List (List ℕ × List Row)) (old new : List Row) (row : Row) → OnOk r (AddsRow old row new) → OnErr r (new ≡ old) → are_full cs ≡ true → Some old ≡ lookup t cs → ds ≡ set_value t cs new → are_full ds ≡ true
grown_full (Ok x) t cs ds old new row ok err all here is = ap are_full is ∙ full-set_value t new cs (adds_full old new row ok) all
grown_full (Err e) t cs ds old new row ok err all here is = ap are_full is ∙ full-set_value t new cs (ap is_filled err ∙ found_full t old cs all (sym here)) all

pub on_ok : {A E P Q : Type 0} (r : Result A E) → (P → Q) → OnOk r P → OnOk r Q
on_ok (Ok x) f h = f h
on_ok (Err e) f h = tt

pub on_err : {A E P Q : Type 0} (r : Result A E) → (P → Q) → OnErr r P → OnErr r Q
on_err (Ok x) f h = tt
on_err (Err e) f h = f h

pub written_back : (whole : List Row) (leaves : List Leaf) (cs ds : List (List ℕ × List Row)) (t : List ℕ → Bool) (old new : List Row) → rows_in_node leaves cs ≡ whole → Some old ≡ lookup t cs → ds ≡ set_value t cs new → new ≡ old → rows_in_node leaves ds ≡ whole
written_back whole leaves cs ds t old new is here set same = ap (rows_in_node leaves) (set ∙ ap (set_value t cs) same ∙ set_value-same t old cs (sym here)) ∙ is

pub no_keys : (path : List (List ℕ)) → length path ≡ 0 → path ≡ []
no_keys [] h = refl
no_keys (k ∷ path) h = absurd (omega arith)

pub adds_leaf_at : (old new : List Row) (leaves ls : List Leaf) (cs : List (List ℕ × List Row)) (path : List (List ℕ)) (l : Leaf) → length path ≡ 0 → rows_in_node leaves cs ≡ old → AddsLeaf leaves l ls → rows_in_node ls cs ≡ new → AddsRow old (leaf_row path l) new
adds_leaf_at old new leaves ls cs path l none is grows was =
    subst (λ p. AddsRow old (leaf_row p l) new) (sym (no_keys path none)) (adds_leaf old new leaves ls cs l is grows
    was)

pub adds_child_at : (whole grown : List Row) (leaves : List Leaf) (cs ds : List (List ℕ × List Row)) (path : List (List ℕ)) (k copied : List ℕ) (rest : List (List ℕ)) (l : Leaf) (rows : List Row) → path ≡ k ∷ rest → copied ≡ k
    → rows_in_node leaves cs ≡ whole → ds ≡ insert_entry key_cmp cs copied rows → rows_in_node leaves ds ≡ grown → None ≡ lookup (at_key k) cs → rows ≡ leaf_row rest l ∷ [] → AddsRow whole (leaf_row path l) grown
adds_child_at whole grown leaves cs ds path k copied rest l rows split copies is grows was none one =
    subst (λ p. AddsRow whole (leaf_row p l) grown) (sym split) (adds_child whole grown leaves cs k rest l rows is (ap (λ x. rows_in_node leaves (insert_entry key_cmp cs x rows)) (sym copies) ∙ ap (rows_in_node leaves) (sym grows) ∙ was) (sym none) one)
