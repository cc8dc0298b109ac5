-- The bytes of bits, one after the other.
use Rattle.std.proofs.Common.{◌≡◌, ℕ, zero, suc, ◌+◌, ◌-◌, ◌*◌, ◌/◌, ◌^◌, ◌<◌, ◌≤◌, Bool, true, false, cond, ltb, [], ◌∷◌, length, refl, sym, ◌∙◌, ap, arith, inl, inr}
use Rattle.std.proofs.lemmas.Bool.{cases_lt, le-ltb, lt-ltb}
use Rattle.rds_briefs.specs.Lives.{Lives, bit, byte_from, bytes_from, up_to_eight}
use Rattle.rds_briefs.specs.BriefTexts.{bits_text}

pub bytes_length : (f : Lives) (p m k : ℕ) → length (bytes_from f p m k) ≡ m
unfolding bytes_from
bytes_length f p zero k = refl
bytes_length f p (suc m) k = ap suc (bytes_length f (p + 8) m (k - 8))

bit_most : (b : Bool) → bit b ≤ 1
bit_most true = omega arith
bit_most false = omega arith

pub byte_below : (f : Lives) (p k : ℕ) → byte_from f p k < 2 ^ k
unfolding byte_from
byte_below f p zero = omega arith
byte_below f p (suc k) =
    let again = byte_below f (p + 1) k in
    let one = bit_most (f p) in omega (arith, again, one)

pub power_most : (k : ℕ) → k ≤ 7 → 2 ^ k ≤ 128
power_most zero le = omega arith
power_most (suc zero) le = omega arith
power_most (suc (suc zero)) le = omega arith
power_most (suc (suc (suc zero))) le = omega arith
power_most (suc (suc (suc (suc zero)))) le = omega arith
power_most (suc (suc (suc (suc (suc zero))))) le = omega arith
power_most (suc (suc (suc (suc (suc (suc zero)))))) le = omega arith
power_most (suc (suc (suc (suc (suc (suc (suc zero))))))) le = omega arith
power_most (suc (suc (suc (suc (suc (suc (suc (suc k)))))))) le = absurd (omega arith)

-- one number more in front
pub byte_more : (f : Lives) (p k : ℕ) → byte_from f p (suc k) ≡ bit (f p) + 2 * byte_from f (p + 1) k
unfolding byte_from
byte_more f p k = refl

pub no_bytes : (f : Lives) (p : ℕ) → bits_text f p 0 ≡ []
unfolding bytes_from
no_bytes f p = refl

next_small : (f : Lives) (p k : ℕ) → 0 < k → k < 8 → bits_text f p k ≡ byte_from f p k ∷ bits_text f (p + k) (k - k)
unfolding bytes_from
next_small f p k h lt =
    let one : (k + 7) / 8 ≡ suc 0 = omega arith in
    let nothing : k - k ≡ 0 = omega arith in
    let is : ltb k 8 ≡ true = lt-ltb k 8 lt in
    ap (λ n. bytes_from f p n k) one ∙ ap (λ t. byte_from f p (cond t k 8) ∷ []) is ∙ ap (λ n. byte_from f p k ∷ bits_text f (p + k) n) (sym nothing)

next_large : (f : Lives) (p k : ℕ) → 8 ≤ k → bits_text f p k ≡ byte_from f p 8 ∷ bits_text f (p + 8) (k - 8)
unfolding bytes_from
next_large f p k le =
    let more : (k + 7) / 8 ≡ suc ((k - 8 + 7) / 8) = omega arith in
    let is : ltb k 8 ≡ false = le-ltb k 8 le in
    ap (λ n. bytes_from f p n k) more ∙ ap (λ t. byte_from f p (cond t k 8) ∷ bits_text f (p + 8) (k - 8)) is

-- the next byte, and those after it
pub next_byte : (f : Lives) (p k : ℕ) → 0 < k → bits_text f p k ≡ byte_from f p (up_to_eight k) ∷ bits_text f (p + up_to_eight k) (k - up_to_eight k)
next_byte f p k h = elim (cases_lt k 8) [
  | inl lt ↦ (let is : ltb k 8 ≡ true = lt-ltb k 8 lt in next_small f p k h lt ∙ ap (λ t. byte_from f p (cond t k 8) ∷ bits_text f (p + cond t k 8) (k - cond t k 8)) (sym is))
  | inr le ↦ (let is : ltb k 8 ≡ false = le-ltb k 8 le in next_large f p k le ∙ ap (λ t. byte_from f p (cond t k 8) ∷ bits_text f (p + cond t k 8) (k - cond t k 8)) (sym is))
]

pub byte_small : (f : Lives) (p k : ℕ) → k ≤ 7 → byte_from f p k < 128
byte_small f p k le =
    let below = byte_below f p k in
    let most = power_most k le in omega arith

pub byte_none : (f : Lives) (p k : ℕ) → k ≡ 0 → 0 ≡ byte_from f p k
unfolding byte_from
byte_none f p k h = sym (ap (byte_from f p) h)

-- one number more in front of those that a byte tells of
pub byte_before : (f : Lives) (first left count byte : ℕ) (b : Bool) → 0 < left → left ≤ count → byte ≡ byte_from f (first + left) (count - left) → f (first + (left - 1)) ≡ b
    → byte * 2 + bit b ≡ byte_from f (first + (left - 1)) (count - (left - 1))
byte_before f first left count byte b some le is at =
    let q = first + (left - 1) in
    let n = count - left in
    let more : count - (left - 1) ≡ suc n = omega arith in
    let next : first + left ≡ q + 1 = omega arith in
    let rest : byte ≡ byte_from f (q + 1) n = is ∙ ap (λ p. byte_from f p n) next in
    let here : bit (f q) ≡ bit b = ap bit at in
    let all : byte_from f q (count - (left - 1)) ≡ bit (f q) + 2 * byte_from f (q + 1) n = ap (byte_from f q) more ∙ byte_more f q n in
    joined byte (bit b) (byte_from f (q + 1) n) rest ∙ ap (λ x. x + 2 * byte_from f (q + 1) n) (sym here) ∙ sym all
  where
    joined : (a b c : ℕ) → a ≡ c → a * 2 + b ≡ b + 2 * c
    joined a b c h = omega arith

-- the next byte, as it was written
pub next_put : (f : Lives) (p k many byte : ℕ) → 0 < k → many ≡ up_to_eight k → byte ≡ byte_from f p many → bits_text f p k ≡ byte ∷ bits_text f (p + many) (k - many)
next_put f p k many byte h m b =
    next_byte f p k h ∙ ap (λ n. byte_from f p n ∷ bits_text f (p + n) (k - n)) (sym m) ∙ ap (λ x. x ∷ bits_text f (p + many) (k - many)) (sym b)

pub no_bits : (f : Lives) (p k : ℕ) → k ≡ 0 → bits_text f p k ≡ []
no_bits f p k h = ap (bits_text f p) h ∙ no_bytes f p
