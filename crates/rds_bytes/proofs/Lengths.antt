-- The length of texts, one after the other.
use Rattle.std.proofs.Common.{◌≡◌, ◌≤◌, ◌+◌, ◌*◌, ℕ, zero, suc, List, [], ◌∷◌, length, take, Some, refl, sym, ap, subst, ◌∙◌, length-append, arith}
use Rattle.std.specs.Prelude.{slice_get}
use Rattle.std.specs.List.{flat_map, AllByRecursion}
use Rattle.std.proofs.Math.Nat.{mul-suc}
use Rattle.std.proofs.lemmas.List.{take_all}
use Rattle.std.proofs.lemmas.List.Concat.{flat_map-cons}
use Rattle.rds_bytes.proofs.Adding.{measured-more}

pub length_more : {A : Type 0} (f : A → List ℕ) (x : A) (xs : List A) → length (flat_map f (x ∷ xs)) ≡ length (f x) + length (flat_map f xs)
length_more f x xs = ap length (flat_map-cons f x xs) ∙ length-append (f x) (flat_map f xs)

-- what was measured of the first parts: their length, at most so much for each, and what holds of each
pub record IsMeasured {A : Type 0} (text : A → List ℕ) (most : ℕ) (Is : A → Type 0) (xs : List A) (i total : ℕ) : Type 0 where
  pub within : i ≤ length xs
  pub sum : total ≡ length (flat_map text (take i xs))
  pub small : total ≤ most * i
  pub each : AllByRecursion Is (take i xs)

pub none_measured : {A : Type 0} (text : A → List ℕ) (most : ℕ) (Is : A → Type 0) (xs : List A) → IsMeasured text most Is xs 0 0
none_measured text most Is xs = record { within = omega arith; sum = refl; small = omega arith; each = tt }

each_more : {A : Type 0} (Is : A → Type 0) (xs : List A) (i : ℕ) (x : A) → slice_get xs i ≡ Some x → Is x → AllByRecursion Is (take i xs) → AllByRecursion Is (take (suc i) xs)
each_more Is [] i x is h all = absurd (let none : ⊥ = cc in none)
each_more Is (y ∷ ys) zero x is h all = (let same : x ≡ y = cc in (subst Is same h, tt))
each_more Is (y ∷ ys) (suc i) x is h all = (all.0, each_more Is ys i x is h all.1)

below : {A : Type 0} (xs : List A) (i : ℕ) (x : A) → slice_get xs i ≡ Some x → suc i ≤ length xs
below [] i x is = absurd (let none : ⊥ = cc in none)
below (y ∷ ys) zero x is = omega arith
below (y ∷ ys) (suc i) x is = let less = below ys i x is in omega arith

pub one_measured : {A : Type 0} (text : A → List ℕ) (most : ℕ) (Is : A → Type 0) (xs : List A) (i : ℕ) (x : A) (total more : ℕ) → slice_get xs i ≡ Some x → IsMeasured text most Is xs i total
    → more ≡ length (text x) → more ≤ most → Is x → IsMeasured text most Is xs (i + 1) (total + more)
one_measured text most Is xs i x total more is so_far long le h =
    let one : suc i ≡ i + 1 = omega arith in
    let sum = so_far.sum in
    let small = so_far.small in
    let longer = measured-more text xs i x is in
    let times : most * (i + 1) ≡ most * i + most = ap (λ n. most * n) (sym one) ∙ mul-suc most i in
    let less = below xs i x is in
    record {
      within = omega arith;
      sum = omega arith;
      small = subst (λ n. total + more ≤ n) (sym times) (omega arith);
      each = subst (λ n. AllByRecursion Is (take n xs)) one (each_more Is xs i x is h so_far.each);
    }

-- all of them, where none is left
pub record AreMeasured {A : Type 0} (text : A → List ℕ) (most : ℕ) (Is : A → Type 0) (xs : List A) (total : ℕ) : Type 0 where
  pub sum : total ≡ length (flat_map text xs)
  pub small : total ≤ most * length xs
  pub each : AllByRecursion Is xs

pub all_measured : {A : Type 0} (text : A → List ℕ) (most : ℕ) (Is : A → Type 0) (xs : List A) (i total : ℕ) → IsMeasured text most Is xs i total → length xs ≤ i → AreMeasured text most Is xs total
all_measured {A = A} text most Is xs i total m le =
    let all = take_all i xs le in
    let within = m.within in
    let same : i ≡ length xs = omega arith in
    record {
      sum = m.sum ∙ ap (λ (ys : List A). length (flat_map text ys)) all;
      small = subst (λ n. total ≤ most * n) same m.small;
      each = subst (AllByRecursion Is) all m.each;
    }
