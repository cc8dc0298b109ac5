-- Sums over the first numbers.
use Rattle.std.proofs.Common.{◌≡◌, ℕ, ◌+◌, ◌≤◌, ◌<◌, suc, zero, cond, [], refl, sym, ap, ◌∙◌, inl, inr, ◌⊎◌, arith}
use Rattle.std.proofs.Common.{◌==◌}
use mathlib.Core.Path.{fun_ext}
use Rattle.std.specs.List.{sum_by, range_with_len}
use Rattle.std.proofs.lemmas.Bool.Decides.{nat_tests}
use Rattle.std.proofs.lemmas.List.Sums.{sum_by-cons}

-- the sum of the first n values
pub sum_below : (ℕ → ℕ) → ℕ → ℕ
sum_below f zero = 0
sum_below f (suc n) = sum_below f n + f n

sum_last : (f : ℕ → ℕ) (n a : ℕ) → sum_by f (range_with_len a (suc n)) ≡ sum_by f (range_with_len a n) + f (a + n)
sum_last f zero a = let c = sum_by-cons f a [] in let e : f (a + 0) ≡ f a = ap f (omega arith) in omega (arith, c, e)
sum_last f (suc n) a =
    let c = sum_by-cons f a (range_with_len (a + 1) (suc n)) in
    let d = sum_by-cons f a (range_with_len (a + 1) n) in
    let i = sum_last f n (a + 1) in
    let e : f (a + suc n) ≡ f ((a + 1) + n) = ap f (omega arith) in
    omega (arith, c, d, i, e)

pub sum_is : (f : ℕ → ℕ) (n : ℕ) → sum_by f (range_with_len 0 n) ≡ sum_below f n
unfolding sum_below
sum_is f zero = refl
sum_is f (suc n) =
    let a = sum_last f n 0 in
    let b = sum_is f n in
    let e : f (0 + n) ≡ f n = ap f (omega arith) in
    omega (arith, a, b, e)

pub sum_up : (f g : ℕ → ℕ) (n : ℕ) → ((i : ℕ) → i < n → f i ≤ g i) → sum_below f n ≤ sum_below g n
unfolding sum_below
sum_up f g zero h = omega arith
sum_up f g (suc n) h = let a : sum_below f n ≤ sum_below g n = sum_up f g n (λ i k. h i (omega arith)) in let b : f n ≤ g n = h n (omega arith) in omega arith

pub sum_longer : (f : ℕ → ℕ) (n m : ℕ) → n ≤ m → sum_below f n ≤ sum_below f m
unfolding sum_below
sum_longer f n zero h = let e : n ≡ 0 = omega arith in rw e (omega arith)
sum_longer f n (suc m) h = elim (last_or_less n m h) [
  | inl e ↦ rw e (omega arith)
  | inr k ↦ let a : sum_below f n ≤ sum_below f m = sum_longer f n m k in omega arith
]
  where
    last_or_less : (n m : ℕ) → n ≤ suc m → (n ≡ suc m) ⊎ (n ≤ m)
    last_or_less n m h = grind arith

pub sum_next : (f : ℕ → ℕ) (n : ℕ) → sum_below f (suc n) ≡ sum_below f n + f n
unfolding sum_below
sum_next f n = refl

pub sum_nothing : (f : ℕ → ℕ) → sum_below f 0 ≡ 0
unfolding sum_below
sum_nothing f = refl

pub sum_add : (f g : ℕ → ℕ) (n : ℕ) → sum_below (λ i. f i + g i) n ≡ sum_below f n + sum_below g n
unfolding sum_below
sum_add f g zero = refl
sum_add f g (suc n) = let a = sum_add f g n in omega arith

sum_none : (j a n : ℕ) → n ≤ j → sum_below (λ i. cond (i == j) a 0) n ≡ 0
unfolding sum_below
sum_none j a zero h = refl
sum_none j a (suc n) h = let x : sum_below (λ i. cond (i == j) a 0) n ≡ 0 = sum_none j a n (omega arith) in let y : cond (n == j) a 0 ≡ 0 = at n j a (omega arith) in omega arith
  where
    at : (n j a : ℕ) → n < j → cond (n == j) a 0 ≡ 0
    at n j a h = grind (arith, nat_tests)

-- one value that isn't 0
pub sum_one : (j a n : ℕ) → j < n → sum_below (λ i. cond (i == j) a 0) n ≡ a
unfolding sum_below
sum_one j a zero h = absurd (omega arith)
sum_one j a (suc n) h = elim (here_or_less j n h) [
  | inl e ↦ let x : sum_below (λ i. cond (i == j) a 0) n ≡ 0 = sum_none j a n (omega arith) in let y : cond (n == j) a 0 ≡ a = at n j a (sym e) in omega arith
  | inr k ↦ let x : sum_below (λ i. cond (i == j) a 0) n ≡ a = sum_one j a n k in let y : cond (n == j) a 0 ≡ 0 = off n j a k in omega arith
]
  where
    here_or_less : (j n : ℕ) → j < suc n → (j ≡ n) ⊎ (j < n)
    here_or_less j n h = grind arith

    at : (n j a : ℕ) → n ≡ j → cond (n == j) a 0 ≡ a
    at n j a h = grind (arith, nat_tests)

    off : (n j a : ℕ) → j < n → cond (n == j) a 0 ≡ 0
    off n j a h = grind (arith, nat_tests)

sum_zero : (n : ℕ) → sum_below (λ i. 0) n ≡ 0
unfolding sum_below
sum_zero zero = refl
sum_zero (suc n) = let a = sum_zero n in omega arith

pub sum_same : (f g : ℕ → ℕ) (n : ℕ) → ((i : ℕ) → f i ≡ g i) → sum_below f n ≡ sum_below g n
sum_same f g n h = ap (λ x. sum_below x n) (fun_ext h)

pub sum_swap : (g : ℕ → ℕ → ℕ) (n m : ℕ) → sum_below (λ s. sum_below (λ i. g i s) n) m ≡ sum_below (λ i. sum_below (λ s. g i s) m) n
unfolding sum_below
sum_swap g n zero = sym (sum_zero n)
sum_swap g n (suc m) = ap (λ x. x + sum_below (λ i. g i m) n) (sum_swap g n m) ∙ sym (sum_add (λ i. sum_below (λ s. g i s) m) (λ i. g i m) n)

pub sum_within : (f g : ℕ → ℕ) (n : ℕ) → ((i : ℕ) → i < n → f i ≡ g i) → sum_below f n ≡ sum_below g n
unfolding sum_below
sum_within f g zero h = refl
sum_within f g (suc n) h = let a = sum_within f g n (λ i k. h i (omega arith)) in let b = h n (omega arith) in omega (arith, a, b)

pub sum_some : (f : ℕ → ℕ) (n : ℕ) → 0 < sum_below f n → (i : ℕ) × (i < n) × (0 < f i)
unfolding sum_below
sum_some f zero h = absurd (omega arith)
sum_some f (suc n) h = elim (either (sum_below f n) (f n) h) [ inl p ↦ (let x = sum_some f n p in (x.0, (let q : x.0 < n = x.1 in omega arith), x.2)) | inr p ↦ (n, omega arith, p) ]
  where
    either : (a b : ℕ) → 0 < a + b → (0 < a) ⊎ (0 < b)
    either a b h = grind arith

pub sum_has : (f : ℕ → ℕ) (n i : ℕ) → i < n → f i ≤ sum_below f n
unfolding sum_below
sum_has f zero i h = absurd (omega arith)
sum_has f (suc n) i h = elim (here_or_less i n h) [ inl p ↦ (let x : f i ≤ sum_below f n = sum_has f n i p in omega arith) | inr e ↦ rw e (omega arith) ]
  where
    here_or_less : (i n : ℕ) → i < suc n → (i < n) ⊎ (i ≡ n)
    here_or_less i n h = grind arith
