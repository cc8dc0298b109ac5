-- Reading keys one after the other, as a loop does.
use Rattle.std.proofs.Common.{◌≡◌, ℕ, ◌+◌, ◌-◌, Bool, true, false, not, cond, ◌&&◌, List, [], ◌∷◌, ◌++◌, Result, Ok, Err, Option, Some, None, refl, sym, ap, subst, ◌∙◌}
use Rattle.std.specs.Prelude.{fold, is_some}
use Rattle.std.specs.List.{list_any}
use Rattle.std.specs.Str.{bytes_eq}
use Rattle.std.specs.declared.cmp.Ordering.{Ordering}
use Rattle.std.specs.Ordering.{is_eq, nat_cmp, ordering_then}
use Rattle.std.specs.Cmp.{nat_cmp_total, tied_itself, tied_then}
use Rattle.std.specs.Cmp.Lexicographic.{texts_ties, nat_list_eq_equiv}
use Rattle.rds_names.specs.declared.fault.Fault.{Fault}
use Rattle.rds_names.specs.declared.fault.Fault.TheVariants.{Bad}
use Rattle.rds_bytes.specs.Reading.{Fails, key_at}
use Rattle.rds_bytes.specs.Marks.{mark}
use Rattle.rds_bytes.specs.Numbers.{place_in, marked_cmp}
use Rattle.rds_names.specs.Key.{key_cmp}
use Rattle.rds_bytes.specs.Table.{has_key, table_number}
use Rattle.rds_bytes.specs.TableTexts.{new_key_at}
use Rattle.rds_bytes.proofs.Loops.{fails_on}
use Rattle.rds_bytes.proofs.TableLaws.{has_turned, same_key}

fold_push : {A K : Type 0} (f : K → A → K) (k : K) (xs : List A) (x : A) → fold f k (xs ++ x ∷ []) ≡ f (fold f k xs) x
fold_push f k [] x = refl
fold_push f k (y ∷ ys) x = fold_push f (f k y) ys x

-- one more was noted
pub noted : {A K : Type 0} (f : K → A → K) (start now next : K) (xs : List A) (x : A) → now ≡ fold f start xs → next ≡ f now x → next ≡ fold f start (xs ++ x ∷ [])
noted f start now next xs x so_far one = one ∙ ap (λ k. f k x) so_far ∙ sym (fold_push f start xs x)

-- what each note keeps, all of them keep
pub all_keep : {A K R : Type 0} (f : K → A → K) (of : K → R) → ((k : K) (x : A) → of (f k x) ≡ of k) → (xs : List A) (k : K) → of (fold f k xs) ≡ of k
all_keep f of keep [] k = refl
all_keep f of keep (x ∷ xs) k = all_keep f of keep xs (f k x) ∙ keep k x

-- ---- a key that is new to a table

abbrev judged : List ℕ → List ℕ → Bool → Result (List ℕ × List ℕ) Fault
judged key rest b = cond (not b) (Ok (key, rest)) (Err Bad)

new_is : (table : List (List ℕ)) (key : List ℕ) (rest : List ℕ) (b : Bool) → has_key table key ≡ b → judged key rest (list_any (λ n. bytes_eq n key) table) ≡ judged key rest b
new_is table key rest b e = ap (judged key rest) (has_turned table key ∙ e)

module _ (table : List (List ℕ)) (bytes : List ℕ) where
  pub key_fails : (e : Fault) → Fails e (key_at bytes) → Fails e (new_key_at table bytes)
  unfolding new_key_at
  key_fails e h = fails_on e (key_at bytes) (new_key_at table bytes) (λ is. rw is refl) h

  pub key_is_new : (key rest : List ℕ) → key_at bytes ≡ Ok (key, rest) → has_key table key ≡ false → new_key_at table bytes ≡ Ok (key, rest)
  unfolding new_key_at
  key_is_new key rest read new = rw read (new_is table key rest false new)

  pub key_is_old : (key rest : List ℕ) → key_at bytes ≡ Ok (key, rest) → has_key table key ≡ true → new_key_at table bytes ≡ Err Bad
  unfolding new_key_at
  key_is_old key rest read old = rw read (new_is table key rest true old)

-- whether a key has a number says whether it stands there
pub is_placed : (keys : List (List ℕ)) (key : List ℕ) (number : Option ℕ) (b : Bool) → number ≡ place_in keys key → is_some number ≡ b → has_key keys key ≡ b
is_placed keys key number b is some = sym (by (has_key keys key) refl) ∙ ap is_some (sym is) ∙ some
  where
    by : (h : Bool) → has_key keys key ≡ h → is_some (place_in keys key) ≡ has_key keys key
    by true e = ap (λ t. is_some (cond t (Some (table_number keys key)) None)) e ∙ sym e
    by false e = ap (λ t. is_some (cond t (Some (table_number keys key)) None)) e ∙ sym e

-- ---- keys with their marks

-- a key with its mark, against another with its own
abbrev pub pair_cmp : ℕ × List ℕ → ℕ × List ℕ → Ordering
pair_cmp a b = ordering_then (nat_cmp a.0 b.0) (key_cmp a.1 b.1)

ties_alone : (key q : List ℕ) → is_eq (key_cmp key q) ≡ bytes_eq q key
ties_alone key q = sym (texts_ties key q) ∙ nat_list_eq_equiv.symm key q

and_false : (a : Bool) → (a && false) ≡ false
and_false true = refl
and_false false = refl

-- two keys with their marks are equal where the keys are
pub ties : (key q : List ℕ) → is_eq (marked_cmp key (mark q) q) ≡ bytes_eq q key
ties key q = sym (tied_then (nat_cmp (mark key) (mark q)) (key_cmp key q)) ∙ by (bytes_eq q key) refl
  where
    level : q ≡ key → is_eq (nat_cmp (mark key) (mark q)) ≡ true
    level same = subst (λ (k : List ℕ). is_eq (nat_cmp (mark key) (mark k)) ≡ true) (sym same) (ap is_eq (tied_itself nat_cmp_total (mark key)))

    by : (b : Bool) → bytes_eq q key ≡ b → (is_eq (nat_cmp (mark key) (mark q)) && is_eq (key_cmp key q)) ≡ b
    by true e = λ i. level (same_key q key e) i && (ties_alone key q ∙ e) i
    by false e = (λ i. is_eq (nat_cmp (mark key) (mark q)) && (ties_alone key q ∙ e) i) ∙ and_false _
