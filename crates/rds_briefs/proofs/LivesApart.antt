-- Two texts of lives that begin with the same bytes say the same.
use Rattle.std.proofs.Common.{◌≡◌, ℕ, zero, suc, ◌+◌, ◌-◌, ◌*◌, ◌/◌, ◌%◌, ◌<◌, ◌≤◌, Bool, true, false, cond, not, eqb, ltb, List, [], ◌∷◌, ◌++◌, get_or, drop}
use Rattle.std.proofs.Common.{inl, inr, refl, sym, ◌∙◌, ap, arith, append_assoc}
use Rattle.std.specs.List.{flat_map}
use Rattle.std.proofs.lemmas.Bool.{cases_Bool, cases_lt, le-ltb, lt-ltb}
use Rattle.std.proofs.lemmas.List.Concat.{flat_map-cons}
use Rattle.rds_bytes.specs.Packed.{packed_text, packed_text_up_to}
use Rattle.rds_briefs.specs.Lives.{Lives, alike, bit, byte_from, bytes_from, lengths_after, stretch_at, up_to_eight}
use Rattle.rds_briefs.specs.BriefTexts.{bits_text, lengths_text, lives_text}
use Rattle.rds_briefs.proofs.FormsRead.{test}
use Rattle.rds_briefs.proofs.StretchLemmas.{is_alike, is_other, left_after, lengths_open}

-- ---- packed numbers

pub same_first : (a b : ℕ) (x y : List ℕ) → a ∷ x ≡ b ∷ y → a ≡ b
same_first a b x y e = ap (λ (t : List ℕ). get_or t 0 0) e

pub same_rest : (a b : ℕ) (x y : List ℕ) → a ∷ x ≡ b ∷ y → x ≡ y
same_rest a b x y e = ap (λ (t : List ℕ). drop 1 t) e

-- a number of one byte
one_byte : (more n : ℕ) (x : List ℕ) → n < 128 → packed_text_up_to (suc more) n ++ x ≡ n ∷ x
unfolding packed_text_up_to
one_byte more n x lt = (let is : ltb n 128 ≡ true = lt-ltb n 128 lt in rw (is, is) refl)

-- a number of several
more_bytes : (more n : ℕ) (x : List ℕ) → 128 ≤ n → packed_text_up_to (suc more) n ++ x ≡ (128 + n % 128) ∷ (packed_text_up_to more (n / 128) ++ x)
unfolding packed_text_up_to
more_bytes more n x le =
    let is : ltb n 128 ≡ false = le-ltb n 128 le in
    let high : ltb (128 + n % 128) 128 ≡ false = le-ltb _ _ (omega arith) in
    rw (is, high) refl

one_and_more : (more n m : ℕ) (x y : List ℕ) → n < 128 → 128 ≤ m → packed_text_up_to (suc more) n ++ x ≡ packed_text_up_to (suc more) m ++ y → ⊥
one_and_more more n m x y lt le e =
    let first = same_first _ _ _ _ (sym (one_byte more n x lt) ∙ e ∙ more_bytes more m y le) in
    omega (arith, first, lt)

-- no number's text begins another's
pub packed_apart : (more n m : ℕ) (x y : List ℕ) → packed_text_up_to more n ++ x ≡ packed_text_up_to more m ++ y → (n ≡ m) × (x ≡ y)
unfolding packed_text_up_to
packed_apart zero n m x y e = (same_first n m x y e, same_rest n m x y e)
packed_apart (suc more) n m x y e = elim (cases_lt n 128) [
  | inl p ↦ elim (cases_lt m 128) [
    | inl q ↦ (let both : n ∷ x ≡ m ∷ y = sym (one_byte more n x p) ∙ e ∙ one_byte more m y q in (same_first n m x y both, same_rest n m x y both))
    | inr q ↦ absurd (one_and_more more n m x y p q e)
  ]
  | inr p ↦ elim (cases_lt m 128) [
    | inl q ↦ absurd (one_and_more more m n y x q p (sym e))
    | inr q ↦
        let both = sym (more_bytes more n x p) ∙ e ∙ more_bytes more m y q in
        let low = same_first _ _ _ _ both in
        let high = packed_apart more (n / 128) (m / 128) x y (same_rest _ _ _ _ both) in
        let some = high.0 in
        (omega (arith, low, some), high.1)
  ]
]

-- ---- which numbers are alike

abbrev pub AreAlike : Lives → Lives → ℕ → ℕ → Type 0
AreAlike f g p k = (i : ℕ) → p ≤ i → i < p + k → f i ≡ g i

none_alike : (f g : Lives) (p : ℕ) → AreAlike f g p 0
none_alike f g p i q r = absurd (omega (arith, q, r))

one_more : (f g : Lives) (p k : ℕ) → f p ≡ g p → AreAlike f g (p + 1) k → AreAlike f g p (suc k)
one_more f g p k here rest i q r = elim (eqb i p) as (λ t. eqb i p ≡ t → f i ≡ g i) [
  | true ↦ λ is. (let at : i ≡ p = grind arith in ap f at ∙ here ∙ ap g (sym at))
  | false ↦ λ is. rest i (grind arith) (omega (arith, r))
] refl

-- ---- lengths

abbrev told : Lives → Bool → ℕ → ℕ → ℕ → List ℕ
told f b n p k = flat_map packed_text (lengths_after f b n p k)

first_told : (n : ℕ) (l x : List ℕ) → flat_map packed_text (n ∷ l) ++ x ≡ packed_text n ++ (flat_map packed_text l ++ x)
first_told n l x = ap (λ (t : List ℕ). t ++ x) (flat_map-cons packed_text n l) ∙ append_assoc (packed_text n) (flat_map packed_text l) x

module _ (f : Lives) (b : Bool) (n p : ℕ) (x : List ℕ) where
  at_end : told f b n p 0 ++ x ≡ packed_text n ++ x
  unfolding lengths_after
  at_end = first_told n [] x

  -- the first length, whatever it is
  opened : (k : ℕ) → told f b n p k ++ x ≡ packed_text (n + stretch_at f b p k) ++ (flat_map packed_text (left_after f b p k (stretch_at f b p k)) ++ x)
  opened k = ap (λ (l : List ℕ). flat_map packed_text l ++ x) (lengths_open f b n p k) ∙ first_told _ _ x

  module _ (k : ℕ) where
    goes_on : alike b (f p) ≡ true → told f b n p (suc k) ++ x ≡ told f b (suc n) (p + 1) k ++ x
    unfolding lengths_after
    goes_on h = ap (λ t. flat_map packed_text (cond t (lengths_after f b (suc n) (p + 1) k) (n ∷ lengths_after f (not b) 1 (p + 1) k)) ++ x) h

    turns : alike b (f p) ≡ false → told f b n p (suc k) ++ x ≡ packed_text n ++ (told f (not b) 1 (p + 1) k ++ x)
    unfolding lengths_after
    turns h =
        ap (λ t. flat_map packed_text (cond t (lengths_after f b (suc n) (p + 1) k) (n ∷ lengths_after f (not b) 1 (p + 1) k)) ++ x) h
        ∙ first_told n (lengths_after f (not b) 1 (p + 1) k) x

-- a stretch that goes on isn't as long as one that ended
one_longer : (f g : Lives) (b : Bool) (n p k : ℕ) (x y : List ℕ) → alike b (f p) ≡ true → alike b (g p) ≡ false → told f b n p (suc k) ++ x ≡ told g b n p (suc k) ++ y → ⊥
one_longer f g b n p k x y on off e =
    let both = sym (opened f b (suc n) (p + 1) x k) ∙ sym (goes_on f b n p x k on) ∙ e ∙ turns g b n p y k off in
    let same = (packed_apart 6 (suc n + stretch_at f b (p + 1) k) n _ _ both).0 in
    omega (arith, same)

lengths_apart : (f g : Lives) (b : Bool) (n p k : ℕ) (x y : List ℕ) → told f b n p k ++ x ≡ told g b n p k ++ y → AreAlike f g p k × (x ≡ y)
lengths_apart f g b n p zero x y e = (none_alike f g p, (packed_apart 6 n n x y (sym (at_end f b n p x) ∙ e ∙ at_end g b n p y)).1)
lengths_apart f g b n p (suc k) x y e = elim (cases_Bool (alike b (f p))) [
  | inl s ↦ elim (cases_Bool (alike b (g p))) [
    | inl t ↦
        let rest = lengths_apart f g b (suc n) (p + 1) k x y (sym (goes_on f b n p x k s) ∙ e ∙ goes_on g b n p y k t) in
        (one_more f g p k (is_alike b (f p) s ∙ sym (is_alike b (g p) t)) rest.0, rest.1)
    | inr t ↦ absurd (one_longer f g b n p k x y s t e)
  ]
  | inr s ↦ elim (cases_Bool (alike b (g p))) [
    | inl t ↦ absurd (one_longer g f b n p k y x t s (sym e))
    | inr t ↦
        let both = packed_apart 6 n n _ _ (sym (turns f b n p x k s) ∙ e ∙ turns g b n p y k t) in
        let rest = lengths_apart f g (not b) 1 (p + 1) k x y both.1 in
        (one_more f g p k (is_other b (f p) s ∙ sym (is_other b (g p) t)) rest.0, rest.1)
  ]
]

-- ---- bits

lowest_bit : (c d : Bool) (m n : ℕ) → bit c + 2 * m ≡ bit d + 2 * n → (c ≡ d) × (m ≡ n)
lowest_bit true true m n e = (refl, omega (arith, e))
lowest_bit true false m n e = absurd (omega (arith, e))
lowest_bit false true m n e = absurd (omega (arith, e))
lowest_bit false false m n e = (refl, omega (arith, e))

byte_apart : (f g : Lives) (p k : ℕ) → byte_from f p k ≡ byte_from g p k → AreAlike f g p k
unfolding byte_from
byte_apart f g p zero e = none_alike f g p
byte_apart f g p (suc k) e =
    let both = lowest_bit (f p) (g p) (byte_from f (p + 1) k) (byte_from g (p + 1) k) e in
    one_more f g p k both.0 (byte_apart f g (p + 1) k both.1)

-- those in the first byte, and those after it
eight_and_more : (f g : Lives) (p k : ℕ) → AreAlike f g p (up_to_eight k) → AreAlike f g (p + 8) (k - 8) → AreAlike f g p k
eight_and_more f g p k first rest i q r = elim (cases_lt k 8) [
  | inl lt ↦ (let few : up_to_eight k ≡ k = ap (λ t. cond t k 8) (lt-ltb k 8 lt) in first i q (omega (arith, r, few)))
  | inr le ↦
      let all : up_to_eight k ≡ 8 = ap (λ t. cond t k 8) (le-ltb k 8 le) in
      elim (cases_lt i (p + 8)) [
        | inl sooner ↦ first i q (omega (arith, sooner, all))
        | inr later ↦ rest i later (omega (arith, r, le))
      ]
]

bytes_apart : (f g : Lives) (p m k : ℕ) (x y : List ℕ) → k ≤ 8 * m → bytes_from f p m k ++ x ≡ bytes_from g p m k ++ y → AreAlike f g p k × (x ≡ y)
unfolding bytes_from
bytes_apart f g p zero k x y le e = (λ i q r. absurd (omega (arith, q, r, le)), e)
bytes_apart f g p (suc m) k x y le e =
    let rest = bytes_apart f g (p + 8) m (k - 8) x y (omega (arith, le)) (same_rest _ _ _ _ e) in
    (eight_and_more f g p k (byte_apart f g p (up_to_eight k) (same_first _ _ _ _ e)) rest.0, rest.1)

bits_apart : (f g : Lives) (p k : ℕ) (x y : List ℕ) → bits_text f p k ++ x ≡ bits_text g p k ++ y → AreAlike f g p k × (x ≡ y)
bits_apart f g p k x y e = bytes_apart f g p ((k + 7) / 8) k x y (omega arith) e

-- ---- in either form

module _ (f : Lives) (p k : ℕ) (x : List ℕ) where
  by_lengths : test f p k ≡ true → lives_text f p k ++ x ≡ 0 ∷ (lengths_text f p k ++ x)
  unfolding lives_text
  by_lengths h = ap (λ t. cond t (0 ∷ lengths_text f p k) (1 ∷ bits_text f p k) ++ x) h

  by_bits : test f p k ≡ false → lives_text f p k ++ x ≡ 1 ∷ (bits_text f p k ++ x)
  unfolding lives_text
  by_bits h = ap (λ t. cond t (0 ∷ lengths_text f p k) (1 ∷ bits_text f p k) ++ x) h

two_forms : (f g : Lives) (p k : ℕ) (x y : List ℕ) → test f p k ≡ true → test g p k ≡ false → lives_text f p k ++ x ≡ lives_text g p k ++ y → ⊥
two_forms f g p k x y s t e = (let bad : 0 ≡ 1 = same_first _ _ _ _ (sym (by_lengths f p k x s) ∙ e ∙ by_bits g p k y t) in omega (arith, bad))

-- no text of so many lives begins another
pub lives_apart : (f g : Lives) (p k : ℕ) (x y : List ℕ) → lives_text f p k ++ x ≡ lives_text g p k ++ y → AreAlike f g p k × (x ≡ y)
lives_apart f g p k x y e = elim (cases_Bool (test f p k)) [
  | inl s ↦ elim (cases_Bool (test g p k)) [
    | inl t ↦ lengths_apart f g true 0 p k x y (same_rest _ _ _ _ (sym (by_lengths f p k x s) ∙ e ∙ by_lengths g p k y t))
    | inr t ↦ absurd (two_forms f g p k x y s t e)
  ]
  | inr s ↦ elim (cases_Bool (test g p k)) [
    | inl t ↦ absurd (two_forms g f p k y x t s (sym e))
    | inr t ↦ bits_apart f g p k x y (same_rest _ _ _ _ (sym (by_bits f p k x s) ∙ e ∙ by_bits g p k y t))
  ]
]
