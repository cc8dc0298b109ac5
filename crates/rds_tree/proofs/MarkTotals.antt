-- Marks that are added up, in any order.
use Rattle.std.proofs.Common.{◌≡◌, ℕ, ◌+◌, ◌%◌, ◌^◌, Bool, true, false, not, cond, List, [], ◌∷◌, refl, sym, ◌∙◌, ap, arith}
use Rattle.std.specs.Prelude.{fold, filter}
use Rattle.rds_state.specs.declared.mark.Mark.{Mark}
use Rattle.rds_state.specs.Mark.{no_mark, plus}
use Rattle.rds_tree.specs.Marks.{IsMoved}

abbrev of_halves : ℕ → ℕ → Mark
of_halves a b = record { high = a; low = b }

same_halves : (a b c d : ℕ) → a ≡ b → c ≡ d → of_halves a c ≡ of_halves b d
same_halves a b c d p q = cc

-- each half is below 2^64
abbrev pub IsWhole : Mark → Type 0
IsWhole m = plus m no_mark ≡ m

turned_sum : (a b c : ℕ) → ((a + b) % 2 ^ 64 + c) % 2 ^ 64 ≡ ((a + c) % 2 ^ 64 + b) % 2 ^ 64
turned_sum a b c = omega arith

moved_sum : (a b c : ℕ) → ((a + b) % 2 ^ 64 + c) % 2 ^ 64 ≡ (a + (b + c) % 2 ^ 64) % 2 ^ 64
moved_sum a b c = omega arith

crossed_sum : (a b c d : ℕ) → ((a + b) % 2 ^ 64 + (c + d) % 2 ^ 64) % 2 ^ 64 ≡ ((a + d) % 2 ^ 64 + (b + c) % 2 ^ 64) % 2 ^ 64
crossed_sum a b c d = omega arith

whole_sum : (a b : ℕ) → ((a + b) % 2 ^ 64 + 0) % 2 ^ 64 ≡ (a + b) % 2 ^ 64
whole_sum a b = omega arith

rest_sum : (r l o m n : ℕ) → (r + l) % 2 ^ 64 ≡ o → (n + l) % 2 ^ 64 ≡ (o + m) % 2 ^ 64 → (n + 0) % 2 ^ 64 ≡ n → (r + m) % 2 ^ 64 ≡ n
rest_sum r l o m n was both whole = omega (arith, was, both, whole)

pub turn : (m n o : Mark) → plus (plus m n) o ≡ plus (plus m o) n
unfolding plus
turn m n o = same_halves _ _ _ _ (turned_sum m.high n.high o.high) (turned_sum m.low n.low o.low)

pub assoc : (m n o : Mark) → plus (plus m n) o ≡ plus m (plus n o)
unfolding plus
assoc m n o = same_halves _ _ _ _ (moved_sum m.high n.high o.high) (moved_sum m.low n.low o.low)

pub cross : (m n o p : Mark) → plus (plus m n) (plus o p) ≡ plus (plus m p) (plus n o)
unfolding plus
cross m n o p = same_halves _ _ _ _ (crossed_sum m.high n.high o.high p.high) (crossed_sum m.low n.low o.low p.low)

pub whole-plus : (m n : Mark) → IsWhole (plus m n)
unfolding plus
whole-plus m n = same_halves _ _ _ _ (whole_sum m.high n.high) (whole_sum m.low n.low)

whole-none : IsWhole no_mark
unfolding plus
whole-none = refl

-- what is left of a mark, with what has come, is the new mark
pub moved_is : (old less more new n : Mark) → IsMoved old less more new → IsWhole n → plus n less ≡ plus old more → new ≡ n
unfolding plus
moved_is old less more new n moved whole both =
    moved.is ∙ same_halves _ _ _ _
    (rest_sum moved.rest.high less.high old.high more.high n.high (ap (λ (m : Mark). m.high) moved.was) (ap (λ (m : Mark). m.high) both) (ap (λ (m : Mark). m.high) whole))
    (rest_sum moved.rest.low less.low old.low more.low n.low (ap (λ (m : Mark). m.low) moved.was) (ap (λ (m : Mark). m.low) both) (ap (λ (m : Mark). m.low) whole))

module _ {X : Type 0} (f : X → Mark) where
  abbrev pub total : List X → Mark
  total xs = fold (λ m x. plus m (f x)) no_mark xs

  -- a mark that was added first may be added last
  added_last : (m n : Mark) (xs : List X) → fold (λ m x. plus m (f x)) (plus m n) xs ≡ plus (fold (λ m x. plus m (f x)) m xs) n
  added_last m n [] = refl
  added_last m n (x ∷ xs) = ap (λ a. fold (λ m x. plus m (f x)) a xs) (turn m n (f x)) ∙ added_last (plus m (f x)) n xs

  pub total-cons : (x : X) (xs : List X) → total (x ∷ xs) ≡ plus (total xs) (f x)
  total-cons x xs = added_last no_mark (f x) xs

  pub whole-total : (xs : List X) → IsWhole (total xs)
  whole-total [] = whole-none
  whole-total (x ∷ xs) = ap (λ m. plus m no_mark) (total-cons x xs) ∙ whole-plus (total xs) (f x) ∙ sym (total-cons x xs)

  -- behind another sum
  pub added_to : (m : Mark) → IsWhole m → (xs : List X) → fold (λ m x. plus m (f x)) m xs ≡ plus m (total xs)
  added_to m whole [] = sym whole
  added_to m whole (x ∷ xs) = added_last m (f x) xs ∙ ap (λ a. plus a (f x)) (added_to m whole xs) ∙ assoc m (total xs) (f x) ∙ ap (plus m) (sym (total-cons x xs))

  -- those that pass, and the others
  pub total-parted : (p : X → Bool) (xs : List X) → total xs ≡ plus (total (filter (λ x. not (p x)) xs)) (total (filter p xs))
  total-parted p [] = sym whole-none
  total-parted p (x ∷ xs) =
      let others = filter (λ x. not (p x)) xs in
      let passed = filter p xs in
      total-cons x xs ∙ ap (λ m. plus m (f x)) (total-parted p xs)
      ∙ elim (p x) as (λ b. plus (plus (total others) (total passed)) (f x) ≡ plus (total (cond (not b) (x ∷ others) others)) (total (cond b (x ∷ passed) passed))) [
        | true ↦ assoc (total others) (total passed) (f x) ∙ ap (plus (total others)) (sym (total-cons x passed))
        | false ↦ turn (total others) (total passed) (f x) ∙ ap (λ m. plus m (total passed)) (sym (total-cons x others))
      ]
