-- Stretches of numbers that are alike.
use Rattle.std.proofs.Common.{◌≡◌, ℕ, zero, suc, ◌+◌, ◌-◌, ◌<◌, ◌≤◌, Bool, true, false, cond, not, eqb, List, [], ◌∷◌, refl, sym, ◌∙◌, ap, arith}
use mathlib.Core.Bool.{beq}
use Rattle.rds_briefs.specs.Lives.{Lives, alike, stretch_at, lengths_after}

pub alike_itself : (b : Bool) → alike b b ≡ true
alike_itself true = refl
alike_itself false = refl

pub alike_other : (b : Bool) → alike b (not b) ≡ false
alike_other true = refl
alike_other false = refl

pub is_alike : (b c : Bool) → alike b c ≡ true → c ≡ b
is_alike true c h = h
is_alike false true h = absurd cc
is_alike false false h = refl

pub is_other : (b c : Bool) → alike b c ≡ false → c ≡ not b
is_other true c h = h
is_other false true h = refl
is_other false false h = absurd cc

module _ (f : Lives) where
  -- m numbers like b, and then one that isn't, or the end
  pub stretch_is : (b : Bool) (p k m : ℕ) → m ≤ k → ((i : ℕ) → p ≤ i → i < p + m → f i ≡ b) → (m < k → f (p + m) ≡ not b) → stretch_at f b p k ≡ m
  unfolding stretch_at
  stretch_is b p zero m le all ends = omega arith
  stretch_is b p (suc k) zero le all ends =
      let here : f (p + 0) ≡ not b = ends (omega arith) in
      let e : p + 0 ≡ p = omega arith in
      let same : f p ≡ not b = ap f (sym e) ∙ here in
      ap (λ c. cond (alike b c) (suc (stretch_at f b (p + 1) k)) 0) same ∙ ap (λ t. cond t (suc (stretch_at f b (p + 1) k)) 0) (alike_other b)
  stretch_is b p (suc k) (suc m) le all ends =
      let here : f p ≡ b = all p (omega arith) (omega arith) in
      let e : p + suc m ≡ (p + 1) + m = omega arith in
      let rest : stretch_at f b (p + 1) k ≡ m = stretch_is b (p + 1) k m (omega arith) (λ i q r. all i (omega arith) (omega arith)) (λ lt. ap f (sym e) ∙ ends (omega arith)) in
      ap (λ c. cond (alike b c) (suc (stretch_at f b (p + 1) k)) 0) here ∙ ap (λ t. cond t (suc (stretch_at f b (p + 1) k)) 0) (alike_itself b) ∙ ap suc rest

  -- no number is like b where the first isn't
  pub stretch_none : (b : Bool) (p k : ℕ) → f p ≡ not b → stretch_at f b p k ≡ 0
  unfolding stretch_at
  stretch_none b p zero h = refl
  stretch_none b p (suc k) h = ap (λ c. cond (alike b c) (suc (stretch_at f b (p + 1) k)) 0) h ∙ ap (λ t. cond t (suc (stretch_at f b (p + 1) k)) 0) (alike_other b)

  pub record Stretch (b : Bool) (p k m : ℕ) : Type 0 where
    pub within : m ≤ k
    pub all : (i : ℕ) → p ≤ i → i < p + m → f i ≡ b
    pub ends : m < k → f (p + m) ≡ not b

  stretch_more : (b : Bool) (p k m : ℕ) → f p ≡ b → Stretch b (p + 1) k m → Stretch b p (suc k) (suc m)
  stretch_more b p k m h s =
      let within = s.within in
      let e : (p + 1) + m ≡ p + suc m = omega arith in
      record {
        within = omega arith;
        all = λ i q r. (elim (eqb i p) as (λ t. eqb i p ≡ t → f i ≡ b) [
          | true ↦ λ is. (let same : i ≡ p = grind arith in ap f same ∙ h)
          | false ↦ λ is. s.all i (grind arith) (omega arith)
        ] refl);
        ends = λ lt. ap f (sym e) ∙ s.ends (omega arith);
      }

  pub stretch_of : (b : Bool) (p k : ℕ) → Stretch b p k (stretch_at f b p k)
  unfolding stretch_at
  stretch_of b p zero = record { within = omega arith; all = λ i q r. absurd (omega arith); ends = λ lt. absurd (omega arith) }
  stretch_of b p (suc k) =
      let again = stretch_of b (p + 1) k in
      elim (alike b (f p)) as (λ t. alike b (f p) ≡ t → Stretch b p (suc k) (cond t (suc (stretch_at f b (p + 1) k)) 0)) [
        | true ↦ λ is. stretch_more b p k _ (is_alike b (f p) is) again
        | false ↦ λ is. (let e : p + 0 ≡ p = omega arith in record { within = omega arith; all = λ i q r. absurd (omega arith); ends = λ lt. ap f e ∙ is_other b (f p) is })
      ] refl

  abbrev pub left_after : Bool → ℕ → ℕ → ℕ → List ℕ
  left_after b p k m = cond (eqb m k) [] (lengths_after f (not b) 0 (p + m) (k - m))

  -- the first length, and those after it
  pub lengths_open : (b : Bool) (n p k : ℕ) → lengths_after f b n p k ≡ (n + stretch_at f b p k) ∷ left_after b p k (stretch_at f b p k)
  unfolding stretch_at lengths_after
  lengths_open b n p zero = ap (λ x. x ∷ []) (omega arith)
  lengths_open b n p (suc k) =
      let m = stretch_at f b (p + 1) k in
      let again : lengths_after f b (suc n) (p + 1) k ≡ (suc n + m) ∷ left_after b (p + 1) k m = lengths_open b (suc n) (p + 1) k in
      elim (alike b (f p)) as (λ t. alike b (f p) ≡ t → cond t (lengths_after f b (suc n) (p + 1) k) (n ∷ lengths_after f (not b) 1 (p + 1) k) ≡ (n + cond t (suc m) 0) ∷ left_after b p (suc k) (cond t (suc m) 0)) [
        | true ↦ λ is.
            let first : suc n + m ≡ n + suc m = omega arith in
            let from : (p + 1) + m ≡ p + suc m = omega arith in
            let left : k - m ≡ suc k - suc m = omega arith in
            again ∙ (λ i. opened b (first i) (same_test m k i) (from i) (left i))
        | false ↦ λ is.
            let first : n ≡ n + 0 = omega arith in
            let from : p ≡ p + 0 = omega arith in
            let left : suc k ≡ suc k - 0 = omega arith in
            ap (λ l. n ∷ l) (sym (begins b p k (is_other b (f p) is))) ∙ (λ i. opened b (first i) (never k i) (from i) (left i))
      ] refl
    where
      opened : Bool → ℕ → Bool → ℕ → ℕ → List ℕ
      opened b n t p k = n ∷ cond t [] (lengths_after f (not b) 0 p k)

      same_test : (m k : ℕ) → eqb m k ≡ eqb (suc m) (suc k)
      same_test m k = grind arith

      never : (k : ℕ) → false ≡ eqb 0 (suc k)
      never k = grind arith

      begins : (b : Bool) (p k : ℕ) → f p ≡ not b → lengths_after f (not b) 0 p (suc k) ≡ lengths_after f (not b) 1 (p + 1) k
      begins b p k h = ap (λ c. cond (alike (not b) c) (lengths_after f (not b) 1 (p + 1) k) (0 ∷ lengths_after f (not (not b)) 1 (p + 1) k)) h ∙ ap (λ t. cond t (lengths_after f (not b) 1 (p + 1) k) (0 ∷ lengths_after f (not (not b)) 1 (p + 1) k)) (alike_itself (not b))

pub differs : (a b : Bool) → not (beq a b) ≡ true → a ≡ not b
differs true true h = absurd cc
differs true false h = refl
differs false true h = refl
differs false false h = absurd cc

pub agrees : (a b : Bool) → not (beq a b) ≡ false → a ≡ b
agrees true true h = refl
agrees true false h = absurd cc
agrees false true h = absurd cc
agrees false false h = refl
