-- Tables of keys: each key has one number, the table of keys has each of them once, and a table is that of keys
-- exactly where their numbers come in turn and meet all of it.
use Rattle.std.proofs.Common.{◌≡◌, ℕ, zero, suc, ◌+◌, ◌<◌, ◌≤◌, Bool, true, false, not, cond, ltb, eqb, ◌&&◌, ◌||◌, List, [], ◌∷◌, ◌++◌, length, take, Option, Some, None, refl, sym, ap, subst, ◌∙◌, arith, length-take}
use Rattle.std.specs.Prelude.{slice_get, fold}
use Rattle.std.specs.List.{list_any, list_all}
use Rattle.std.specs.Str.{bytes_eq}
use Rattle.std.specs.Cmp.Lexicographic.{nat_list_eq_equiv}
use Rattle.std.proofs.lemmas.Bool.{false≢true, ltb-true, ltb-false, eqb-true}
use Rattle.std.proofs.lemmas.List.{take_all}
use Rattle.std.proofs.lemmas.List.Folds.{list_any-append}
use Rattle.std.proofs.lemmas.Slice.Eq.{bytes_eq-Decides}
use Rattle.rds_names.specs.Conditions.{and_true, and_left, and_right}
use Rattle.rds_names.specs.Roster.{all_differ}
use Rattle.rds_bytes.specs.Reading.{is_new}
use Rattle.rds_bytes.proofs.PartFormats.{differ-push}
use Rattle.rds_bytes.specs.Table.{has_key, AreIn, add_key, table_of, table_number, after_key}

pub same_key : (a b : List ℕ) → bytes_eq a b ≡ true → a ≡ b
same_key a b h = (bytes_eq-Decides a b).0 h

pub is_same : (a : List ℕ) → bytes_eq a a ≡ true
is_same a = (bytes_eq-Decides a a).1 refl

pub no_some : {A B : Type 0} (x : A) → ◌≡◌ {A = Option A} None (Some x) → B
no_some x h = absurd (let none : ⊥ = cc in none)

-- ---- the number of a key

-- whether the other is before or behind it, a key is the same
pub has_turned : (xs : List (List ℕ)) (x : List ℕ) → list_any (λ m. bytes_eq m x) xs ≡ has_key xs x
has_turned xs x i = list_any (λ m. nat_list_eq_equiv.symm m x i) xs

head_number : (b : Bool) (x : List ℕ) (xs : List (List ℕ)) (k : List ℕ) → bytes_eq k x ≡ b → table_number (x ∷ xs) k ≡ cond (not b) (1 + table_number xs k) 0
head_number b x xs k e = ap (λ t. cond (not t) (1 + table_number xs k) 0) e

pub head_has : (b : Bool) (x : List ℕ) (xs : List (List ℕ)) (k : List ℕ) → bytes_eq k x ≡ b → has_key (x ∷ xs) k ≡ (b || has_key xs k)
head_has b x xs k e = ap (λ t. t || has_key xs k) e

or_true : (b : Bool) → (b || true) ≡ true
or_true true = refl
or_true false = refl

pub has_at : (xs : List (List ℕ)) (n : ℕ) (k : List ℕ) → slice_get xs n ≡ Some k → has_key xs k ≡ true
has_at [] n k h = no_some k h
has_at (x ∷ xs) zero k h = (let same : x ≡ k = cc in head_has true x xs k (subst (λ (y : List ℕ). bytes_eq k y ≡ true) (sym same) (is_same k)))
has_at (x ∷ xs) (suc n) k h = ap (λ t. bytes_eq k x || t) (has_at xs n k h) ∙ or_true (bytes_eq k x)

next_number : (n m : ℕ) → n ≡ 1 + m → n ≡ suc m
next_number n m h = omega arith

-- the key at a place has the place for its number, where none stands twice
pub number_at_place : (table : List (List ℕ)) (n : ℕ) (k : List ℕ) → all_differ table ≡ true → slice_get table n ≡ Some k → table_number table k ≡ n
number_at_place [] n k differ h = no_some k h
number_at_place (x ∷ xs) zero k differ h = (let same : x ≡ k = cc in head_number true x xs k (subst (λ (y : List ℕ). bytes_eq k y ≡ true) (sym same) (is_same k)))
number_at_place (x ∷ xs) (suc n) k differ h =
    let there = has_at xs n k h in
    let later = number_at_place xs n k (and_right (not (list_any (λ m. bytes_eq m x) xs)) _ differ) h in
    let apart : not (has_key xs x) ≡ true = ap not (sym (has_turned xs x)) ∙ and_left _ (all_differ xs) differ in
    by (bytes_eq k x) refl there later apart
  where
    by : (b : Bool) → bytes_eq k x ≡ b → has_key xs k ≡ true → table_number xs k ≡ n → not (has_key xs x) ≡ true → table_number (x ∷ xs) k ≡ suc n
    by true e there later apart = absurd (false≢true (ap not (sym (subst (λ (y : List ℕ). has_key xs y ≡ true) (same_key k x e) there)) ∙ apart))
    by false e there later apart = next_number _ n (head_number false x xs k e ∙ ap (λ m. 1 + m) later)

-- the key of a number
pub key_at_number : (table : List (List ℕ)) (k : List ℕ) → has_key table k ≡ true → slice_get table (table_number table k) ≡ Some k
key_at_number [] k h = absurd (false≢true h)
key_at_number (x ∷ xs) k h = by (bytes_eq k x) refl (λ more. key_at_number xs k more)
  where
    by : (b : Bool) → bytes_eq k x ≡ b → (has_key xs k ≡ true → slice_get xs (table_number xs k) ≡ Some k) → slice_get (x ∷ xs) (table_number (x ∷ xs) k) ≡ Some k
    by true e later = ap (slice_get (x ∷ xs)) (head_number true x xs k e) ∙ ap (λ (y : List ℕ). Some y) (sym (same_key k x e))
    by false e later =
        let more : has_key xs k ≡ true = sym (head_has false x xs k e) ∙ h in
        ap (slice_get (x ∷ xs)) (next_number _ (table_number xs k) (head_number false x xs k e)) ∙ later more

pub below_length : {A : Type 0} (xs : List A) (n : ℕ) (x : A) → slice_get xs n ≡ Some x → n < length xs
below_length [] n x h = no_some x h
below_length (y ∷ xs) zero x h = omega arith
below_length (y ∷ xs) (suc n) x h = let less = below_length xs n x h in omega arith

pub number_below : (table : List (List ℕ)) (k : List ℕ) → has_key table k ≡ true → table_number table k < length table
number_below table k h = below_length table (table_number table k) k (key_at_number table k h)

-- ---- the table of keys

none_new : (a : Bool) → (a || false) ≡ a
none_new true = refl
none_new false = refl

pub not_had : (table : List (List ℕ)) (k : List ℕ) → not (has_key table k) ≡ is_new table k
not_had table k = ap not (sym (has_turned table k))

pub differ_push : (table : List (List ℕ)) (k : List ℕ) → all_differ (table ++ k ∷ []) ≡ (all_differ table && not (has_key table k))
differ_push table k = differ-push table k ∙ ap (λ b. all_differ table && b) (sym (not_had table k))

pub has_push : (xs : List (List ℕ)) (y k : List ℕ) → has_key (xs ++ y ∷ []) k ≡ (has_key xs k || bytes_eq k y)
has_push xs y k = list_any-append (bytes_eq k) xs (y ∷ []) ∙ ap (λ b. has_key xs k || b) (none_new (bytes_eq k y))

-- what holds of a table, and of it with a new key, holds of it with a key
add_case : (P : List (List ℕ) → Type 0) (table : List (List ℕ)) (k : List ℕ) (b : Bool) → has_key table k ≡ b → (b ≡ true → P table) → (b ≡ false → P (table ++ k ∷ [])) → P (add_key table k)
add_case P table k true e old new = subst (λ t. P (cond t table (table ++ k ∷ []))) (sym e) (old refl)
add_case P table k false e old new = subst (λ t. P (cond t table (table ++ k ∷ []))) (sym e) (new refl)

add_differ : (table : List (List ℕ)) (k : List ℕ) → all_differ table ≡ true → all_differ (add_key table k) ≡ true
add_differ table k differ = add_case (λ t. all_differ t ≡ true) table k (has_key table k) refl (λ h. differ) (λ h. differ_push table k ∙ and_true _ _ differ (ap not h))

pub add_has : (table : List (List ℕ)) (k : List ℕ) → has_key (add_key table k) k ≡ true
add_has table k = add_case (λ t. has_key t k ≡ true) table k (has_key table k) refl (λ h. h) (λ h. has_push table k k ∙ ap (λ b. has_key table k || b) (is_same k) ∙ or_true (has_key table k))

pub add_keeps : (table : List (List ℕ)) (j k : List ℕ) → has_key table k ≡ true → has_key (add_key table j) k ≡ true
add_keeps table j k h = add_case (λ t. has_key t k ≡ true) table j (has_key table j) refl (λ _. h) (λ _. has_push table j k ∙ ap (λ b. b || bytes_eq k j) h)

all_push : (P : List ℕ → Bool) (xs : List (List ℕ)) (y : List ℕ) → list_all P xs ≡ true → P y ≡ true → list_all P (xs ++ y ∷ []) ≡ true
all_push P [] y all one = and_true _ _ one refl
all_push P (x ∷ xs) y all one = and_true _ _ (and_left (P x) (list_all P xs) all) (all_push P xs y (and_right (P x) _ all) one)

fold_differ : (ks table : List (List ℕ)) → all_differ table ≡ true → all_differ (fold add_key table ks) ≡ true
fold_differ [] table h = h
fold_differ (k ∷ ks) table h = fold_differ ks (add_key table k) (add_differ table k h)

fold_keeps : (ks table : List (List ℕ)) (k : List ℕ) → has_key table k ≡ true → has_key (fold add_key table ks) k ≡ true
fold_keeps [] table k h = h
fold_keeps (j ∷ ks) table k h = fold_keeps ks (add_key table j) k (add_keeps table j k h)

fold_has : (ks table : List (List ℕ)) → AreIn (fold add_key table ks) ks
fold_has [] table = tt
fold_has (k ∷ ks) table = (fold_keeps ks (add_key table k) k (add_has table k), fold_has ks (add_key table k))

fold_all : (P : List ℕ → Bool) (ks table : List (List ℕ)) → list_all P table ≡ true → list_all P ks ≡ true → list_all P (fold add_key table ks) ≡ true
fold_all P [] table old new = old
fold_all P (k ∷ ks) table old new =
    let one = and_left (P k) (list_all P ks) new in
    fold_all P ks (add_key table k) (add_case (λ t. list_all P t ≡ true) table k (has_key table k) refl (λ _. old) (λ _. all_push P table k old one)) (and_right (P k) _ new)

pub table_differs : (keys : List (List ℕ)) → all_differ (table_of keys) ≡ true
unfolding table_of
table_differs keys = fold_differ keys [] refl

pub table_has : (keys : List (List ℕ)) → AreIn (table_of keys) keys
unfolding table_of
table_has keys = fold_has keys []

pub table_all : (P : List ℕ → Bool) (keys : List (List ℕ)) → list_all P keys ≡ true → list_all P (table_of keys) ≡ true
unfolding table_of
table_all P keys h = fold_all P keys [] refl h

pub number_push : (xs : List (List ℕ)) (y k : List ℕ) → has_key xs k ≡ true → table_number (xs ++ y ∷ []) k ≡ table_number xs k
number_push [] y k h = absurd (false≢true h)
number_push (x ∷ xs) y k h = by (bytes_eq k x) refl (λ more. number_push xs y k more)
  where
    by : (b : Bool) → bytes_eq k x ≡ b → (has_key xs k ≡ true → table_number (xs ++ y ∷ []) k ≡ table_number xs k) → table_number ((x ∷ xs) ++ y ∷ []) k ≡ table_number (x ∷ xs) k
    by true e later = head_number true x (xs ++ y ∷ []) k e ∙ sym (head_number true x xs k e)
    by false e later = head_number false x (xs ++ y ∷ []) k e ∙ ap (λ m. 1 + m) (later (sym (head_has false x xs k e) ∙ h)) ∙ sym (head_number false x xs k e)

pub number_last : (xs : List (List ℕ)) (k : List ℕ) → has_key xs k ≡ false → table_number (xs ++ k ∷ []) k ≡ table_number xs k
number_last [] k h = head_number true k [] k (is_same k)
number_last (x ∷ xs) k h = by (bytes_eq k x) refl (λ more. number_last xs k more)
  where
    by : (b : Bool) → bytes_eq k x ≡ b → (has_key xs k ≡ false → table_number (xs ++ k ∷ []) k ≡ table_number xs k) → table_number ((x ∷ xs) ++ k ∷ []) k ≡ table_number (x ∷ xs) k
    by true e later = head_number true x (xs ++ k ∷ []) k e ∙ sym (head_number true x xs k e)
    by false e later = head_number false x (xs ++ k ∷ []) k e ∙ ap (λ m. 1 + m) (later (sym (head_has false x xs k e) ∙ h)) ∙ sym (head_number false x xs k e)

-- what a key that isn't there has for its number
pub number_none : (xs : List (List ℕ)) (k : List ℕ) → has_key xs k ≡ false → table_number xs k ≡ length xs
number_none [] k h = refl
number_none (x ∷ xs) k h = by (bytes_eq k x) refl (λ more. number_none xs k more)
  where
    by : (b : Bool) → bytes_eq k x ≡ b → (has_key xs k ≡ false → table_number xs k ≡ length xs) → table_number (x ∷ xs) k ≡ suc (length xs)
    by true e later = absurd (false≢true (sym h ∙ head_has true x xs k e))
    by false e later = next_number _ (length xs) (head_number false x xs k e ∙ ap (λ m. 1 + m) (later (sym (head_has false x xs k e) ∙ h)))

-- a key keeps its number when another is added, and has it before it is added
pub number_kept : (table : List (List ℕ)) (j k : List ℕ) → has_key table k ≡ true → table_number (add_key table j) k ≡ table_number table k
number_kept table j k h = add_case (λ t. table_number t k ≡ table_number table k) table j (has_key table j) refl (λ _. refl) (λ _. number_push table j k h)

pub number_after_add : (table : List (List ℕ)) (k : List ℕ) → table_number (add_key table k) k ≡ table_number table k
number_after_add table k = add_case (λ t. table_number t k ≡ table_number table k) table k (has_key table k) refl (λ _. refl) (λ h. number_last table k h)

-- ---- keys that are met in turn

-- So many of the table's keys were met, and in turn; or one was met where the table has another.
abbrev pub IsMet : List (List ℕ) → List (List ℕ) → Option ℕ → Type 0
IsMet table met None = (i : ℕ) × (k : List ℕ) × (slice_get met i ≡ Some k) × (slice_get table i ≡ Some k → ⊥)
IsMet table met (Some n) = (met ≡ take n table) × (n ≤ length table)

get_more : {A : Type 0} (xs : List A) (y : A) (i : ℕ) (x : A) → slice_get xs i ≡ Some x → slice_get (xs ++ y ∷ []) i ≡ Some x
get_more [] y i x h = no_some x h
get_more (z ∷ xs) y zero x h = h
get_more (z ∷ xs) y (suc i) x h = get_more xs y i x h

pub get_last : {A : Type 0} (xs : List A) (y : A) → slice_get (xs ++ y ∷ []) (length xs) ≡ Some y
get_last [] y = refl
get_last (x ∷ xs) y = get_last xs y

has_taken : (table : List (List ℕ)) (n u : ℕ) (k : List ℕ) → n < u → slice_get table n ≡ Some k → has_key (take u table) k ≡ true
has_taken [] n u k lt h = no_some k h
has_taken (x ∷ xs) n zero k lt h = absurd (let none : ⊥ = omega arith in none)
has_taken (x ∷ xs) zero (suc u) k lt h = has_at (x ∷ take u xs) 0 k h
has_taken (x ∷ xs) (suc n) (suc u) k lt h = ap (λ t. bytes_eq k x || t) (has_taken xs n u k (omega arith) h) ∙ or_true (bytes_eq k x)

pub not_taken : (table : List (List ℕ)) (u : ℕ) (k : List ℕ) → u ≤ table_number table k → has_key (take u table) k ≡ false
not_taken table zero k le = refl
not_taken [] (suc u) k le = refl
not_taken (x ∷ xs) (suc u) k le = by (bytes_eq k x) refl (λ later. not_taken xs u k later)
  where
    by : (b : Bool) → bytes_eq k x ≡ b → (u ≤ table_number xs k → has_key (take u xs) k ≡ false) → has_key (x ∷ take u xs) k ≡ false
    by true e more = absurd (let zero_is = head_number true x xs k e in let none : ⊥ = omega arith in none)
    by false e more = (let next = head_number false x xs k e in head_has false x (take u xs) k e ∙ more (omega arith))

pub take_push : {A : Type 0} (xs : List A) (n : ℕ) (x : A) → slice_get xs n ≡ Some x → take n xs ++ x ∷ [] ≡ take (suc n) xs
take_push [] n x h = no_some x h
take_push (y ∷ xs) zero x h = (let same : y ≡ x = cc in ap (λ z. z ∷ []) (sym same))
take_push (y ∷ xs) (suc n) x h = ap (λ t. y ∷ t) (take_push xs n x h)

module _ (table : List (List ℕ)) (differ : all_differ table ≡ true) where
  met_one : (met : List (List ℕ)) (u n : ℕ) (k : List ℕ) (less same : Bool) → ltb u n ≡ less → eqb n u ≡ same → met ≡ take u table → u ≤ length table → slice_get table n ≡ Some k → table_number table k ≡ n
      → IsMet table (add_key met k) (cond less None (cond same (Some (u + 1)) (Some u)))
  met_one met u n k true same lt eq is le there number =
      let over : u < n = (let o = lt in ltb-true u n o) in
      let new : has_key met k ≡ false = ap (λ t. has_key t k) is ∙ not_taken table u k (omega arith) in
      let len : length met ≡ u = ap length is ∙ omega (arith, length-take u table) in
      let last : slice_get (add_key met k) u ≡ Some k = add_case (λ t. slice_get t u ≡ Some k) met k (has_key met k) refl (λ h. absurd (false≢true (sym new ∙ h))) (λ _. ap (slice_get (met ++ k ∷ [])) (sym len) ∙ get_last met k) in
      (u, k, last, λ at. (let two = number_at_place table u k differ at in omega arith))
  met_one met u n k false true lt eq is le there number =
      let same : n ≡ u = eqb-true n u eq in
      let new : has_key met k ≡ false = ap (λ t. has_key t k) is ∙ not_taken table u k (omega arith) in
      let within = below_length table n k there in
      let one : suc u ≡ u + 1 = omega arith in
      let at : slice_get table u ≡ Some k = ap (slice_get table) (sym same) ∙ there in (
        add_case (λ t. t ≡ take (u + 1) table) met k (has_key met k) refl (λ h. absurd (false≢true (sym new ∙ h))) (λ _. ap (λ t. t ++ k ∷ []) is ∙ take_push table u k at ∙ ap (λ m. take m table) one),
        omega arith,
      )
  met_one met u n k false false lt eq is le there number =
      let before : n ≤ u = ltb-false u n lt in
      let other : n < u = (let ne : eqb n u ≡ false = eq in grind arith) in
      let old : has_key met k ≡ true = ap (λ t. has_key t k) is ∙ has_taken table n u k other there in
      (add_case (λ t. t ≡ take u table) met k (has_key met k) refl (λ _. is) (λ h. absurd (false≢true (sym h ∙ old))), le)

  met_step : (met : List (List ℕ)) (m : Option ℕ) (k : List ℕ) → has_key table k ≡ true → IsMet table met m → IsMet table (add_key met k) (after_key table m k)
  met_step met None k h is = (is.0, is.1, add_case (λ t. slice_get t is.0 ≡ Some is.1) met k (has_key met k) refl (λ _. is.2) (λ _. get_more met k is.0 is.1 is.2), is.3)
  met_step met (Some u) k h is = met_one met u (table_number table k) k (ltb u (table_number table k)) (eqb (table_number table k) u) refl refl is.0 is.1 (key_at_number table k h) refl

  met_all : (keys met : List (List ℕ)) (m : Option ℕ) → AreIn table keys → IsMet table met m → IsMet table (fold add_key met keys) (fold (after_key table) m keys)
  met_all [] met m are is = is
  met_all (k ∷ keys) met m are is = met_all keys (add_key met k) (after_key table m k) are.1 (met_step met m k are.0 is)

  pub keys_met : (keys : List (List ℕ)) → AreIn table keys → IsMet table (table_of keys) (fold (after_key table) (Some 0) keys)
  unfolding table_of
  keys_met keys are = met_all keys [] (Some 0) are (refl, omega arith)

  -- all of the table was met, in turn: it is the table of the keys
  pub is_table : (keys : List (List ℕ)) → AreIn table keys → fold (after_key table) (Some 0) keys ≡ Some (length table) → table_of keys ≡ table
  is_table keys are all =
      let is : IsMet table (table_of keys) (Some (length table)) = subst (IsMet table (table_of keys)) all (keys_met keys are) in
      is.0 ∙ take_all (length table) table (omega arith)

  whole_met : (met : List (List ℕ)) (m : Option ℕ) → IsMet table met m → met ≡ table → m ≡ Some (length table)
  whole_met met None is same = absurd (is.3 (ap (λ t. slice_get t is.0) (sym same) ∙ is.2))
  whole_met met (Some u) is same =
      let len = ap length (sym is.0 ∙ same) in
      let few = length-take u table in
      let n : u ≡ length table = omega arith in
      ap (λ m. Some m) n

  -- and the other way round
  pub meets_all : (keys : List (List ℕ)) → AreIn table keys → table_of keys ≡ table → fold (after_key table) (Some 0) keys ≡ Some (length table)
  meets_all keys are same = whole_met (table_of keys) _ (keys_met keys are) same
