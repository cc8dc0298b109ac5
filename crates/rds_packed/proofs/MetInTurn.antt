-- A table has just the keys that rows use, in the order of first use, exactly where its numbers came in turn and met
-- all of it. That holds of every list of keys: one that isn't in the table, or stands there twice, isn't met in turn.
use Rattle.std.proofs.Common.{◌≡◌, ◌↔◌, ℕ, zero, suc, ◌+◌, ◌<◌, ◌≤◌, Bool, true, false, cond, ltb, eqb, ◌||◌, List, [], ◌∷◌, ◌++◌, length, take, Option, Some, None, IsTrue, refl, sym, ap, subst, ◌∙◌, arith}
use Rattle.std.specs.Prelude.{slice_get, fold}
use Rattle.std.specs.Str.{bytes_eq}
use Rattle.std.specs.Cmp.Lexicographic.{pointwise_decides}
use Rattle.std.proofs.lemmas.Bool.{false≢true, ltb-false, eqb-true}
use Rattle.std.proofs.lemmas.List.{take_all}
use Rattle.std.proofs.lemmas.Slice.Eq.{bytes_eq-Decides}
use Rattle.rds_names.specs.Roster.{all_differ}
use Rattle.rds_bytes.specs.Table.{has_key, AreIn, add_key, table_of, table_number, after_key, is_tabled}
use Rattle.rds_bytes.specs.TableValue.{TableValue}
use Rattle.rds_bytes.proofs.TableLaws.{has_at, head_has, key_at_number, number_none, meets_all, table_differs, table_has}
use Rattle.rds_feeds.specs.Numbered.{TabledParts, met_of, keys_of, has_own_table}

or_true : (b : Bool) → (b || true) ≡ true
or_true true = refl
or_true false = refl

no_some : {A B : Type 0} (x : A) → ◌≡◌ {A = Option A} None (Some x) → B
no_some x h = absurd (let none : ⊥ = cc in none)

-- a key whose number is below the length has its place there
place_is : (table : List (List ℕ)) (k : List ℕ) → table_number table k < length table → slice_get table (table_number table k) ≡ Some k
place_is table k less = by (has_key table k) refl
  where
    by : (b : Bool) → has_key table k ≡ b → slice_get table (table_number table k) ≡ Some k
    by true had = key_at_number table k had
    by false new = absurd (let past = number_none table k new in let none : ⊥ = omega arith in none)

has_taken : (table : List (List ℕ)) (n u : ℕ) (k : List ℕ) → n < u → slice_get table n ≡ Some k → has_key (take u table) k ≡ true
has_taken [] n u k lt h = no_some k h
has_taken (x ∷ xs) n zero k lt h = absurd (let none : ⊥ = omega arith in none)
has_taken (x ∷ xs) zero (suc u) k lt h = has_at (x ∷ take u xs) 0 k h
has_taken (x ∷ xs) (suc n) (suc u) k lt h = ap (λ t. bytes_eq k x || t) (has_taken xs n u k (omega arith) h) ∙ or_true (bytes_eq k x)

head_number : (b : Bool) (x : List ℕ) (xs : List (List ℕ)) (k : List ℕ) → bytes_eq k x ≡ b → table_number (x ∷ xs) k ≡ cond b 0 (1 + table_number xs k)
head_number true x xs k e = rw e refl
head_number false x xs k e = rw e refl

not_taken : (table : List (List ℕ)) (u : ℕ) (k : List ℕ) → u ≤ table_number table k → has_key (take u table) k ≡ false
not_taken table zero k le = refl
not_taken [] (suc u) k le = refl
not_taken (x ∷ xs) (suc u) k le = by (bytes_eq k x) refl (λ later. not_taken xs u k later)
  where
    by : (b : Bool) → bytes_eq k x ≡ b → (u ≤ table_number xs k → has_key (take u xs) k ≡ false) → has_key (x ∷ take u xs) k ≡ false
    by true e more = absurd (let zero_is = head_number true x xs k e in let none : ⊥ = omega arith in none)
    by false e more = (let next = head_number false x xs k e in head_has false x (take u xs) k e ∙ more (omega arith))

take_push : {A : Type 0} (xs : List A) (n : ℕ) (x : A) → slice_get xs n ≡ Some x → take n xs ++ x ∷ [] ≡ take (suc n) xs
take_push [] n x h = no_some x h
take_push (y ∷ xs) zero x h = (let same : y ≡ x = cc in ap (λ z. z ∷ []) (sym same))
take_push (y ∷ xs) (suc n) x h = ap (λ t. y ∷ t) (take_push xs n x h)

add_old : (keys : List (List ℕ)) (k : List ℕ) → has_key keys k ≡ true → add_key keys k ≡ keys
add_old keys k had = ap (λ b. cond b keys (keys ++ k ∷ [])) had

add_new : (keys : List (List ℕ)) (k : List ℕ) → has_key keys k ≡ false → add_key keys k ≡ keys ++ k ∷ []
add_new keys k new = ap (λ b. cond b keys (keys ++ k ∷ [])) new

module _ (table : List (List ℕ)) where
  -- the keys so far, each once, are the first of the table, where so many of it were met
  abbrev IsMet : List (List ℕ) → Option ℕ → Type 0
  IsMet keys None = Unit {0}
  IsMet keys (Some n) = n ≤ length table → keys ≡ take n table

  met_one : (keys : List (List ℕ)) (u n : ℕ) (k : List ℕ) (less same : Bool) → ltb u n ≡ less → eqb n u ≡ same → table_number table k ≡ n → IsMet keys (Some u)
      → IsMet (add_key keys k) (cond less None (cond same (Some (u + 1)) (Some u)))
  met_one keys u n k true same lt eq number is = tt
  met_one keys u n k false true lt eq number is = λ within. (
      let at : n ≡ u = eqb-true n u eq in
      let there : slice_get table u ≡ Some k = ap (slice_get table) (sym (number ∙ at)) ∙ place_is table k (omega arith) in
      let so_far : keys ≡ take u table = is (omega arith) in
      let new : has_key keys k ≡ false = ap (λ t. has_key t k) so_far ∙ not_taken table u k (omega arith) in
      let one : suc u ≡ u + 1 = omega arith in
      add_new keys k new ∙ ap (λ t. t ++ k ∷ []) so_far ∙ take_push table u k there ∙ ap (λ m. take m table) one)
  met_one keys u n k false false lt eq number is = λ within. (
      let before : n ≤ u = ltb-false u n lt in
      let below : n < u = (let ne : eqb n u ≡ false = eq in grind arith) in
      let there : slice_get table n ≡ Some k = ap (slice_get table) (sym number) ∙ place_is table k (omega arith) in
      let so_far : keys ≡ take u table = is within in
      let old : has_key keys k ≡ true = ap (λ t. has_key t k) so_far ∙ has_taken table n u k below there in
      add_old keys k old ∙ so_far)

  met_step : (keys : List (List ℕ)) (met : Option ℕ) (k : List ℕ) → IsMet keys met → IsMet (add_key keys k) (after_key table met k)
  met_step keys None k is = tt
  met_step keys (Some u) k is = met_one keys u (table_number table k) k (ltb u (table_number table k)) (eqb (table_number table k) u) refl refl refl is

  met_all : (more keys : List (List ℕ)) (met : Option ℕ) → IsMet keys met → IsMet (fold add_key keys more) (fold (after_key table) met more)
  met_all [] keys met is = is
  met_all (k ∷ more) keys met is = met_all more (add_key keys k) (after_key table met k) (met_step keys met k is)

  -- all of the table was met, in turn: it is the table of the keys
  all_met : (keys : List (List ℕ)) → met_of table keys ≡ Some (length table) → table_of keys ≡ table
  unfolding table_of
  all_met keys met =
      let is : IsMet (fold add_key [] keys) (Some (length table)) = subst (IsMet (fold add_key [] keys)) met (met_all keys [] (Some 0) (λ _. refl)) in
      is (omega arith) ∙ take_all (length table) table (omega arith)

  -- and the other way round
  meets_own : (keys : List (List ℕ)) → table_of keys ≡ table → met_of table keys ≡ Some (length table)
  meets_own keys same =
      let differ : all_differ table ≡ true = subst (λ (t : List (List ℕ)). all_differ t ≡ true) same (table_differs keys) in
      let had : AreIn table keys = subst (λ (t : List (List ℕ)). AreIn t keys) same (table_has keys) in
      meets_all table differ keys had same

  pub own_is_met : (keys : List (List ℕ)) → (is_tabled table keys ≡ true) ↔ (met_of table keys ≡ Some (length table))
  own_is_met keys =
      let decides = pointwise_decides bytes_eq-Decides (table_of keys) table in
      (λ own. meets_own keys (decides.0 own), λ met. decides.1 (all_met keys met))

-- ---- the parts that were read

-- whether all of the table was met says whether it is their own
pub is_own : (p : TabledParts) (met : Option ℕ) (now : TableValue) (all : Bool) → met ≡ met_of p.0 (keys_of p.1) → now ≡ record { keys = p.0; met = met } → (IsTrue all ↔ (now.met ≡ Some (length now.keys))) → has_own_table p ≡ all
is_own p met now all so_far is says = by all says (has_own_table p) refl
  where
    met_is : now.met ≡ met_of p.0 (keys_of p.1)
    met_is = ap (λ (t : TableValue). t.met) is ∙ so_far

    all_is : Some (length now.keys) ≡ Some (length p.0)
    all_is = ap (λ (t : TableValue). Some (length t.keys)) is

    by : (b : Bool) → (IsTrue b ↔ (now.met ≡ Some (length now.keys))) → (own : Bool) → has_own_table p ≡ own → own ≡ b
    by true h true e = refl
    by false h false e = refl
    by true h false e = absurd (let own = (own_is_met p.0 (keys_of p.1)).1 (sym met_is ∙ h.0 refl ∙ all_is) in false≢true (sym e ∙ own))
    by false h true e = absurd (false≢true (h.1 (met_is ∙ (own_is_met p.0 (keys_of p.1)).0 e ∙ sym all_is)))
