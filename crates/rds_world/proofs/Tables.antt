-- A function with another value at one place, and lists that go side by side.
use Rattle.std.proofs.Common.{◌≡◌, ◌<◌, ◌≤◌, ◌∙◌, ℕ, suc, zero, Bool, true, false, cond, List, [], ◌∷◌, ◌++◌, refl, sym}
use Rattle.std.proofs.Common.{subst, inl, inr, ◌⊎◌, arith, ◌==◌, length, Option, Some, None, slice_get, slice_index_or}
use Rattle.std.specs.List.{AllZip}
use Rattle.std.proofs.lemmas.Bool.Decides.{nat_tests}
use Rattle.std.proofs.lemmas.Option.{slice_get_cases, slice_get_past, slice_get_read}
use Rattle.rds_world.specs.World.{put}

pub is_same : (i n : ℕ) → (i == n) ≡ true → i ≡ n
is_same i n h = grind (arith, nat_tests)

pub isnt_same : (i n : ℕ) → (i == n) ≡ false → i ≡ n → ⊥
isnt_same i n h = grind (arith, nat_tests)

put_case : {A C : Type 0} (P : ℕ → A → C → Type 0) (f : ℕ → A) (g : ℕ → C) (r : ℕ) (x : A) (y : C) → P r x y → ((s : ℕ) → (s ≡ r → ⊥) → P s (f s) (g s)) → (s : ℕ) (b : Bool) → (s == r) ≡ b → P s (cond b x (f s)) (cond b y (g s))
put_case P f g r x y h k s true e = subst (λ t. P t x y) (sym (is_same s r e)) h
put_case P f g r x y h k s false e = k s (isnt_same s r e)

-- what holds at the place and elsewhere
pub put_two : {A C : Type 0} (P : ℕ → A → C → Type 0) (f : ℕ → A) (g : ℕ → C) (r : ℕ) (x : A) (y : C) → P r x y → ((s : ℕ) → (s ≡ r → ⊥) → P s (f s) (g s)) → (s : ℕ) → P s (put f r x s) (put g r y s)
put_two P f g r x y h k s = put_case P f g r x y h k s (s == r) refl

pub put_one : {A : Type 0} (P : ℕ → A → Type 0) (f : ℕ → A) (r : ℕ) (x : A) → P r x → ((s : ℕ) → (s ≡ r → ⊥) → P s (f s)) → (s : ℕ) → P s (put f r x s)
put_one P f r x h k s = put_two (λ s a c. P s a) f f r x x h k s

pub put_here : {A : Type 0} (f : ℕ → A) (r : ℕ) (x : A) → put f r x r ≡ x
put_here f r x = put_one (λ s a. s ≡ r → a ≡ x) f r x (λ e. refl) (λ s n e. absurd (n e)) r refl

pub put_there : {A : Type 0} (f : ℕ → A) (r : ℕ) (x : A) (s : ℕ) → (s ≡ r → ⊥) → put f r x s ≡ f s
put_there f r x s n = put_one (λ s a. (s ≡ r → ⊥) → a ≡ f s) f r x (λ e. absurd (e refl)) (λ s n e. refl) s n

abbrev pub Together : {A C : Type 0} → (A → C → Type 0) → Option A → Option C → Type 0
Together P None None = Unit {0}
Together P None (Some y) = ⊥
Together P (Some x) None = ⊥
Together P (Some x) (Some y) = P x y

pub matched_last : {A C : Type 0} (P : A → C → Type 0) (xs : List A) (ys : List C) (x : A) (y : C) → AllZip P xs ys → P x y → AllZip P (xs ++ x ∷ []) (ys ++ y ∷ [])
matched_last P [] [] x y m h = (h, tt)
matched_last P [] (b ∷ ys) x y m h = absurd m
matched_last P (a ∷ xs) [] x y m h = absurd m
matched_last P (a ∷ xs) (b ∷ ys) x y m h = (m.0, matched_last P xs ys x y m.1 h)

pub matched_weaker : {A C : Type 0} (P Q : A → C → Type 0) (xs : List A) (ys : List C) → ((x : A) (y : C) → P x y → Q x y) → AllZip P xs ys → AllZip Q xs ys
matched_weaker P Q [] [] f m = tt
matched_weaker P Q [] (b ∷ ys) f m = m
matched_weaker P Q (a ∷ xs) [] f m = m
matched_weaker P Q (a ∷ xs) (b ∷ ys) f m = (f a b m.0, matched_weaker P Q xs ys f m.1)

pub matched_at : {A C : Type 0} (P : A → C → Type 0) (xs : List A) (ys : List C) (k : ℕ) → AllZip P xs ys → Together P (slice_get xs k) (slice_get ys k)
matched_at P [] [] k m = tt
matched_at P [] (b ∷ ys) k m = absurd m
matched_at P (a ∷ xs) [] k m = absurd m
matched_at P (a ∷ xs) (b ∷ ys) zero m = m.0
matched_at P (a ∷ xs) (b ∷ ys) (suc k) m = matched_at P xs ys k m.1

pub same_some : {A : Type 0} (x y : A) → Some x ≡ Some y → x ≡ y
same_some x y e = cc

pub together_some : {A C : Type 0} (P : A → C → Type 0) (x : Option A) (y : Option C) (m : A) → Together P x y → x ≡ Some m → (a : C) × (y ≡ Some a) × P m a
together_some P None y m t e = cc
together_some P (Some n) None m t e = absurd t
together_some P (Some n) (Some a) m t e = (a, refl, subst (λ z. P z a) (same_some n m e) t)

-- below the length there is a member
pub member_there : {A : Type 0} (xs : List A) (r : ℕ) → r < length xs → (m : A) × (slice_get xs r ≡ Some m)
member_there xs r below = elim (slice_get_cases xs r).1 [
  | inl found ↦ (found.0, found.2)
  | inr past ↦ absurd (omega (arith, below, past.0))
]

-- what is read at a place below the length stands there
pub read_there : {A : Type 0} (xs : List A) (at n : ℕ) (x : A) → at ≡ n → n < length xs → x ≡ slice_index_or xs at x → slice_get xs n ≡ Some x
read_there xs at n x is below read = slice_get_read xs (length xs) n x refl below (subst (λ k. x ≡ slice_index_or xs k x) is read)

-- and what a look at an equal list finds, or doesn't
pub looked_up : {A : Type 0} (xs ys : List A) (i n : ℕ) (x : A) → xs ≡ ys → i ≡ n → i < length xs → x ≡ slice_index_or xs i x → slice_get ys n ≡ Some x
looked_up xs ys i n x same is below read = sym (λ j. slice_get (same j) (is j)) ∙ slice_get_read xs (length xs) i x refl below read

pub looked_past : {A : Type 0} (xs ys : List A) (i n : ℕ) → xs ≡ ys → i ≡ n → length xs ≤ i → slice_get ys n ≡ None
looked_past xs ys i n same is past = sym (λ j. slice_get (same j) (is j)) ∙ slice_get_past xs i past

-- ---- lists that grow at their end

pub last_get : {A : Type 0} (xs : List A) (x y : A) (k : ℕ) → slice_get (xs ++ x ∷ []) k ≡ Some y → (slice_get xs k ≡ Some y) ⊎ (y ≡ x)
last_get [] x y zero e = inr (sym (same_some x y e))
last_get [] x y (suc k) e = cc
last_get (a ∷ xs) x y zero e = inl e
last_get (a ∷ xs) x y (suc k) e = last_get xs x y k e

-- what stands in a list keeps its number
pub get_front : {A : Type 0} (xs ys : List A) (k : ℕ) (y : A) → slice_get xs k ≡ Some y → slice_get (xs ++ ys) k ≡ Some y
get_front [] ys k y e = cc
get_front (x ∷ xs) ys zero y e = e
get_front (x ∷ xs) ys (suc k) y e = get_front xs ys k y e

pub get_last : {A : Type 0} (xs : List A) (x : A) → slice_get (xs ++ x ∷ []) (length xs) ≡ Some x
get_last [] x = refl
get_last (a ∷ xs) x = get_last xs x

pub slice_get_below : {A : Type 0} (xs : List A) (k : ℕ) (x : A) → slice_get xs k ≡ Some x → k < length xs
slice_get_below [] k x e = cc
slice_get_below (y ∷ ys) zero x e = omega arith
slice_get_below (y ∷ ys) (suc k) x e = let below = slice_get_below ys k x e in omega (arith, below)

pub same_or_not : (t r : ℕ) → (t ≡ r) ⊎ (t ≡ r → ⊥)
same_or_not t r = grind arith
