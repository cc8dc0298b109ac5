-- Numbers of keys, as they come and as they stand in the whole table.
use Rattle.std.proofs.Common.{◌≡◌, ℕ, true, List, [], ◌∷◌, ◌++◌, refl, sym, ap, ◌∙◌, append_assoc, map as each}
use Rattle.std.specs.Prelude.{fold}
use Rattle.std.proofs.lemmas.List.Concat.{flat_map-cons}
use Rattle.rds_names.specs.declared.entry.Entry.{Entry}
use Rattle.rds_dots.specs.declared.dot.Dot.{Dot}
use Rattle.rds_bytes.specs.Table.{live_keys, has_key, add_key, table_number, table_of}
use Rattle.rds_bytes.specs.Numbers.{numbers_from}
use Rattle.rds_bytes.proofs.TableLaws.{number_after_add, number_kept, add_has, add_keeps}

fold_append : (t xs ys : List (List ℕ)) → fold add_key t (xs ++ ys) ≡ fold add_key (fold add_key t xs) ys
fold_append t [] ys = refl
fold_append t (x ∷ xs) ys = fold_append (add_key t x) xs ys

numbers_append : (t xs ys : List (List ℕ)) → numbers_from t (xs ++ ys) ≡ numbers_from t xs ++ numbers_from (fold add_key t xs) ys
numbers_append t [] ys = refl
numbers_append t (x ∷ xs) ys = ap (λ ns. table_number t x ∷ ns) (numbers_append (add_key t x) xs ys)

-- ---- a step of a loop

pub one_folded : (a t total : List (List ℕ)) (k : List ℕ) (keys : List (List ℕ)) → fold add_key t (k ∷ keys) ≡ total → a ≡ add_key t k → fold add_key a keys ≡ total
one_folded a t total k keys so_far is = ap (λ (x : List (List ℕ)). fold add_key x keys) is ∙ so_far

pub one_numbered : (a t : List (List ℕ)) (ms ns total : List ℕ) (k : List ℕ) (keys : List (List ℕ)) → ns ++ numbers_from t (k ∷ keys) ≡ total → a ≡ add_key t k → ms ≡ ns ++ table_number t k ∷ [] → ms ++ numbers_from a keys ≡ total
one_numbered a t ms ns total k keys so_far is more =
    (λ i. more i ++ numbers_from (is i) keys) ∙ append_assoc ns (table_number t k ∷ []) (numbers_from (add_key t k) keys) ∙ so_far

pub paths_more : (row : Dot × Entry) (rows : List (Dot × Entry)) → live_keys (row ∷ rows) ≡ row.1.path ++ live_keys rows
paths_more row rows = flat_map-cons (λ (r : Dot × Entry). r.1.path) row rows

pub row_folded : (a t total : List (List ℕ)) (row : Dot × Entry) (rows : List (Dot × Entry)) → fold add_key t (live_keys (row ∷ rows)) ≡ total → a ≡ fold add_key t row.1.path → fold add_key a (live_keys rows) ≡ total
row_folded a t total row rows so_far is =
    ap (λ (x : List (List ℕ)). fold add_key x (live_keys rows)) is ∙ sym (fold_append t row.1.path (live_keys rows)) ∙ ap (fold add_key t) (sym (paths_more row rows)) ∙ so_far

pub row_numbered : (a t : List (List ℕ)) (ms ns total : List ℕ) (row : Dot × Entry) (rows : List (Dot × Entry)) → ns ++ numbers_from t (live_keys (row ∷ rows)) ≡ total → a ≡ fold add_key t row.1.path → ms ≡ ns ++ numbers_from t row.1.path → ms ++ numbers_from a (live_keys rows) ≡ total
row_numbered a t ms ns total row rows so_far is more =
    (λ i. more i ++ numbers_from (is i) (live_keys rows)) ∙ append_assoc ns (numbers_from t row.1.path) (numbers_from (fold add_key t row.1.path) (live_keys rows))
    ∙ ap (λ (x : List ℕ). ns ++ x) (sym (numbers_append t row.1.path (live_keys rows)) ∙ ap (numbers_from t) (sym (paths_more row rows))) ∙ so_far

-- ---- all of it

kept : (keys t : List (List ℕ)) (k : List ℕ) → has_key t k ≡ true → table_number (fold add_key t keys) k ≡ table_number t k
kept [] t k h = refl
kept (j ∷ keys) t k h = kept keys (add_key t j) k (add_keeps t j k h) ∙ number_kept t j k h

numbers_are : (keys t : List (List ℕ)) → numbers_from t keys ≡ each (table_number (fold add_key t keys)) keys
numbers_are [] t = refl
numbers_are (k ∷ keys) t =
    let first = sym (number_after_add t k) ∙ sym (kept keys (add_key t k) k (add_has t k)) in
    (λ i. first i ∷ numbers_are keys (add_key t k) i)

module _ (xs ys one two : List (List ℕ)) (ns ms : List ℕ) (p : one ≡ fold add_key [] xs) (q : two ≡ fold add_key one ys) where
  pub both_keys : two ≡ table_of (xs ++ ys)
  unfolding table_of
  both_keys = q ∙ ap (λ (t : List (List ℕ)). fold add_key t ys) p ∙ sym (fold_append [] xs ys)

  pub both_numbers : ns ≡ numbers_from [] xs → ms ≡ ns ++ numbers_from one ys → ms ≡ each (table_number (table_of (xs ++ ys))) (xs ++ ys)
  unfolding table_of
  both_numbers r s = s ∙ (λ i. r i ++ numbers_from (p i) ys) ∙ sym (numbers_append [] xs ys) ∙ numbers_are (xs ++ ys) []
