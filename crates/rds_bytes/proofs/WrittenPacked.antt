-- Steps of writing a packed number.
use Rattle.std.proofs.Common.{◌≡◌, ℕ, zero, suc, ◌+◌, ◌-◌, ◌/◌, ◌%◌, ◌^◌, ◌<◌, ◌≤◌, false, ltb, List, [], ◌∷◌, ◌++◌, Result, Ok, Err, refl, ap, ◌∙◌, append_assoc, arith}
use Rattle.std.proofs.lemmas.Bool.{lt-ltb, le-ltb}
use Rattle.rds_bytes.specs.Packed.{packed_text_up_to}
use Rattle.rds_bytes.specs.Writing.{Adds}

-- a number of one byte
pub text_alone : (more n : ℕ) → n < 128 → packed_text_up_to more n ≡ n ∷ []
unfolding packed_text_up_to
text_alone zero n lt = refl
text_alone (suc more) n lt = (let is = lt-ltb n 128 lt in rw (is, is) refl)

-- a first byte, and those after it
pub text_more : (more n : ℕ) → 128 ≤ n → packed_text_up_to (suc more) n ≡ (128 + n % 128) ∷ packed_text_up_to more (n / 128)
unfolding packed_text_up_to
text_more more n le =
    let is = le-ltb n 128 le in
    let high : ltb (128 + n % 128) 128 ≡ false = le-ltb _ _ (omega arith) in
    rw (is, high) refl

pub more_than_one : (more n : ℕ) → n < 128 ^ suc more → 128 ≤ n → more ≡ suc (more - 1)
more_than_one zero n lt le = absurd (omega (arith, lt, le))
more_than_one (suc more) n lt le = omega arith

-- one text and then another
pub adds_both : {T E : Type 0} (r : Result T E) (old middle new x y : List ℕ) → middle ≡ old ++ x → Adds middle new y r → Adds old new (x ++ y) r
adds_both (Ok t) old middle new x y first next = next ∙ ap (λ (l : List ℕ). l ++ y) first ∙ append_assoc old x y
adds_both (Err e) old middle new x y first next = tt

-- where there are several bytes: the first, and those after it
pub text_goes_on : (more n : ℕ) → n < 128 ^ suc more → 128 ≤ n → packed_text_up_to more n ≡ (128 + n % 128) ∷ packed_text_up_to (more - 1) (n / 128)
text_goes_on more n lt le = ap (λ (k : ℕ). packed_text_up_to k n) (more_than_one more n lt le) ∙ text_more (more - 1) n le

pub adds_rest : {T E : Type 0} (r : Result T E) (old middle new : List ℕ) (more n : ℕ) → n < 128 ^ suc more → 128 ≤ n → middle ≡ old ++ ((128 + n % 128) ∷ []) → Adds middle new (packed_text_up_to (more - 1) (n / 128)) r → Adds old new (packed_text_up_to more n) r
adds_rest r old middle new more n lt le first next =
    let text = text_goes_on more n lt le in
    rw text (adds_both r old middle new ((128 + n % 128) ∷ []) (packed_text_up_to (more - 1) (n / 128)) first next)
