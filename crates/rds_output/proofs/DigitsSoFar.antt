-- The digits of a number, written from the last on.
use Rattle.std.proofs.Common.{◌≡◌, ℕ, suc, ◌+◌, ◌-◌, ◌*◌, ◌/◌, ◌%◌, ◌^◌, ◌<◌, ◌≤◌, List, [], ◌∷◌, ◌++◌, length, drop, sym, ap, ◌∙◌, subst, arith, append_assoc, inl, inr, eq-zero-or-pos}
use Rattle.std.proofs.Math.ListN.{set}
use Rattle.std.proofs.Math.Nat.{pow-suc}
use Rattle.std.proofs.Math.Seq.{drop-length}
use Rattle.std.proofs.lemmas.Fmt.{decimal_digit, decimal_step_wide}
use Rattle.std.proofs.lemmas.List.{append-nil, drop-set, length-set}
use Rattle.std.specs.Fmt.{decimal}

-- those of what is left are still to be written before `at`
pub record AreDigitsSoFar (n left at : ℕ) (bytes : List ℕ) : Type 0 where
  pub digits : decimal left ++ drop at bytes ≡ decimal n
  pub below : left < 10 ^ at
  pub short : left < 10 ^ 64
  pub room : 0 < at
  pub whole : at ≤ length bytes

pub none_so_far : (n : ℕ) (bytes : List ℕ) → n < 10 ^ 39 → length bytes ≡ 39 → AreDigitsSoFar n n 39 bytes
none_so_far n bytes h e = record {
  digits = ap (λ l. decimal n ++ l) (subst (λ k. drop k bytes ≡ []) e (drop-length bytes)) ∙ append-nil (decimal n);
  below = h;
  short = omega arith;
  room = omega arith;
  whole = omega arith;
}

-- the digit in its place, and those behind it
placed : (left k : ℕ) (bytes : List ℕ) → suc k ≤ length bytes → drop k (set bytes k (48 + left % 10)) ≡ (48 + left % 10) ∷ drop (suc k) bytes
placed left k bytes h =
    let next : k + 1 ≡ suc k = omega arith in
    drop-set bytes k (48 + left % 10) (omega arith) ∙ ap (λ j. (48 + left % 10) ∷ drop j bytes) next

last_of : (n left k : ℕ) (bytes : List ℕ) → left / 10 ≡ 0 → AreDigitsSoFar n left (suc k) bytes → drop k (set bytes k (48 + left % 10)) ≡ decimal n
last_of n left k bytes e s =
    let same : left ≡ left % 10 = omega arith in
    let digit : decimal left ≡ (48 + left % 10) ∷ [] = decimal_digit left (omega arith) ∙ ap (λ d. (48 + d) ∷ []) same in
    placed left k bytes s.whole ∙ ap (λ l. l ++ drop (suc k) bytes) (sym digit) ∙ s.digits

next_of : (n left k : ℕ) (bytes : List ℕ) → 0 < left / 10 → AreDigitsSoFar n left (suc k) bytes → AreDigitsSoFar n (left / 10) k (set bytes k (48 + left % 10))
next_of n left k bytes h s =
    let more : 10 ≤ left = omega arith in
    let within : left < 10 ^ k * 10 = subst (λ m. left < m) (pow-suc 10 k) s.below in
    let fewer : left / 10 < 10 ^ k = omega arith in
    record {
      digits = ap (λ l. decimal (left / 10) ++ l) (placed left k bytes s.whole)
          ∙ sym (append_assoc (decimal (left / 10)) ((48 + left % 10) ∷ []) (drop (suc k) bytes))
          ∙ ap (λ l. l ++ drop (suc k) bytes) (sym (decimal_step_wide left more s.short)) ∙ s.digits;
      below = fewer;
      short = let small : left < 10 ^ 64 = s.short in omega arith;
      room = elim (eq-zero-or-pos k) [
        | inl z ↦ (let none : left / 10 < 1 = subst (λ j. left / 10 < 10 ^ j) z fewer in absurd (omega arith))
        | inr g ↦ g
      ];
      whole = subst (λ m. k ≤ m) (sym (length-set bytes k (48 + left % 10))) (let h : suc k ≤ length bytes = s.whole in omega arith);
    }

pub last_digit : (n left at : ℕ) (bytes : List ℕ) → left / 10 ≡ 0 → AreDigitsSoFar n left at bytes → drop (at - 1) (set bytes (at - 1) (48 + left % 10)) ≡ decimal n
last_digit n left at bytes e s =
    let one : at ≡ suc (at - 1) = let room : 0 < at = s.room in omega arith in
    last_of n left (at - 1) bytes e (subst (λ j. AreDigitsSoFar n left j bytes) one s)

pub next_digit : (n left at : ℕ) (bytes : List ℕ) → 0 < left / 10 → AreDigitsSoFar n left at bytes → AreDigitsSoFar n (left / 10) (at - 1) (set bytes (at - 1) (48 + left % 10))
next_digit n left at bytes h s =
    let one : at ≡ suc (at - 1) = let room : 0 < at = s.room in omega arith in
    next_of n left (at - 1) bytes h (subst (λ j. AreDigitsSoFar n left j bytes) one s)
