-- One text added after another.
use Rattle.std.proofs.Common.{◌≡◌, ℕ, zero, suc, ◌+◌, List, [], ◌∷◌, ◌++◌, take, Some, sym, ap, ◌∙◌, append_assoc, arith, length, length-append}
use Rattle.std.specs.Prelude.{slice_get}
use Rattle.std.specs.List.{flat_map}
use Rattle.std.proofs.lemmas.List.{append-nil}
use Rattle.std.proofs.lemmas.List.Concat.{flat_map-cons}

taken-more : {A : Type 0} (f : A → List ℕ) (xs : List A) (i : ℕ) (x : A) → slice_get xs i ≡ Some x → flat_map f (take (suc i) xs) ≡ flat_map f (take i xs) ++ f x
taken-more f [] i x is = absurd (let none : ⊥ = cc in none)
taken-more f (y ∷ ys) zero x is =
    let same : y ≡ x = cc in
    flat_map-cons f y [] ∙ append-nil (f y) ∙ ap f same
taken-more f (y ∷ ys) (suc i) x is =
    flat_map-cons f y (take (suc i) ys) ∙ ap (λ (t : List ℕ). f y ++ t) (taken-more f ys i x is) ∙ sym (append_assoc (f y) (flat_map f (take i ys)) (f x))
    ∙ ap (λ (t : List ℕ). t ++ f x) (sym (flat_map-cons f y (take i ys)))

-- what was added for the first i parts, and then for the next
pub added-more : {A : Type 0} (f : A → List ℕ) (xs : List A) (i : ℕ) (x : A) (start now next : List ℕ) → slice_get xs i ≡ Some x → now ≡ start ++ flat_map f (take i xs) → next ≡ now ++ f x → next ≡ start ++ flat_map f (take (i + 1) xs)
added-more f xs i x start now next is so_far more =
    let one : suc i ≡ i + 1 = omega arith in
    more ∙ ap (λ (t : List ℕ). t ++ f x) so_far ∙ append_assoc start (flat_map f (take i xs)) (f x) ∙ ap (λ (t : List ℕ). start ++ t) (sym (taken-more f xs i x is))
    ∙ ap (λ n. start ++ flat_map f (take n xs)) one

-- the length so far, and that of the next part
pub measured-more : {A : Type 0} (f : A → List ℕ) (xs : List A) (i : ℕ) (x : A) → slice_get xs i ≡ Some x → length (flat_map f (take (i + 1) xs)) ≡ length (flat_map f (take i xs)) + length (f x)
measured-more f xs i x is =
    let one : i + 1 ≡ suc i = omega arith in
    ap (λ n. length (flat_map f (take n xs))) one ∙ ap length (taken-more f xs i x is) ∙ length-append (flat_map f (take i xs)) (f x)
