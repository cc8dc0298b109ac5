-- Packed numbers are a format.
use Rattle.std.proofs.Common.{◌≡◌, ℕ, zero, suc, ◌+◌, ◌-◌, ◌*◌, ◌/◌, ◌%◌, ◌^◌, ◌<◌, ◌≤◌, Bool, true, false, cond, ltb, List, [], ◌∷◌, ◌++◌, Ok, Err, refl, sym, ap, subst, ◌∙◌, ◌⊎◌, inl, inr, arith}
use Rattle.std.proofs.lemmas.Bool.{cases_lt, ltb-false, ltb-true, le-ltb, lt-ltb}
use Rattle.rds_names.specs.declared.fault.Fault.{Fault}
use Rattle.rds_bytes.specs.OneText.{HasOneText}
use Rattle.rds_bytes.specs.Packed.{packed_parts, packed_by, nothing_at, packed_up_to, packed_text_up_to, packed_at, packed_text, HasPackedText}
use Rattle.rds_bytes.specs.Reading.{Reader, then_at, when_at, byte_at}
use Rattle.rds_bytes.proofs.TabledFormats.{one_text}
use Rattle.rds_bytes.proofs.Format.{IsBytes, IsFormat, Takes, CutOrBad, ok_is, done, failed, byte_format, then_format, made_format, when_format, refit}

nothing_format : IsFormat nothing_at (λ _. []) (λ n. n ≡ 0)
nothing_format = record {
  takes = λ bytes x fits e. subst (λ (y : ℕ × List ℕ). Takes bytes [] y.1 × (y.0 ≡ 0)) (ok_is (0, bytes) x e) (record { parts = refl; rest_fits = fits }, refl);
  again = λ n rest h. ap (λ (k : ℕ). done (k, rest)) (sym h);
  faults = λ bytes e fits h. absurd (let bad : done {A = ℕ × List ℕ} (0, bytes) ≡ Err e = h in cc);
}

-- what may follow a byte, last or not
abbrev Follows : Bool → ℕ → ℕ → Type 0
Follows true more m = m ≡ 0
Follows false more m = (m < 128 ^ suc more) × (ltb 0 m ≡ true)

rest_format : (more : ℕ) → IsFormat (packed_up_to more) (packed_text_up_to more) (λ n. n < 128 ^ suc more) → (last : Bool)
    → IsFormat (cond last nothing_at (when_at (ltb 0) (packed_up_to more))) (λ m. cond last [] (packed_text_up_to more m)) (Follows last more)
rest_format more format true = nothing_format
rest_format more format false = when_format (ltb 0) (packed_up_to more) (packed_text_up_to more) (λ n. n < 128 ^ suc more) format

abbrev Parts : ℕ → ℕ × ℕ → Type 0
Parts more p = (p.0 < 256) × Follows (ltb p.0 128) more p.1

there : (more n : ℕ) → n < 128 ^ suc (suc more) → Parts more (packed_parts n) × (packed_by (packed_parts n) ≡ n)
there more n fits =
    elim (cases_lt n 128) [
      | inl small ↦ (let is : ltb n 128 ≡ true = lt-ltb n 128 small in rw (is, is) ((omega (arith, small), refl), refl))
      | inr large ↦
          let is : ltb n 128 ≡ false = le-ltb n 128 large in
          let high : ltb (128 + n % 128) 128 ≡ false = le-ltb _ _ (omega arith) in
          rw (is, high) ((omega arith, (omega (arith, fits), lt-ltb 0 (n / 128) (omega (arith, large)))), omega arith)
    ]

below_all : (more b : ℕ) → b < 128 → b < 128 ^ suc (suc more)
below_all zero b lt = omega (arith, lt)
below_all (suc more) b lt = (let less = below_all more b lt in omega (arith, less))

back : (more : ℕ) (p : ℕ × ℕ) → Parts more p → (packed_by p < 128 ^ suc (suc more)) × (packed_parts (packed_by p) ≡ p)
back more (b, m) h =
    elim (cases_lt b 128) [
      | inl small ↦
          let is : ltb b 128 ≡ true = lt-ltb b 128 small in
          let none : m ≡ 0 = subst (λ (t : Bool). Follows t more m) is h.1 in
          rw (is, is) (below_all more b small, ap (λ (k : ℕ). (b, k)) (sym none))
      | inr large ↦
          let is : ltb b 128 ≡ false = le-ltb b 128 large in
          let some : (m < 128 ^ suc more) × (ltb 0 m ≡ true) = subst (λ (t : Bool). Follows t more m) is h.1 in
          let positive : 0 < m = ltb-true 0 m some.1 in
          let high : ltb (b - 128 + 128 * m) 128 ≡ false = le-ltb _ _ (omega (arith, positive, large)) in
          let first : 128 + (b - 128 + 128 * m) % 128 ≡ b = omega (arith, large, h.0) in
          let next : (b - 128 + 128 * m) / 128 ≡ m = omega (arith, large, h.0) in
          rw (is, high) (omega (arith, some.0, h.0), λ i. (first i, next i))
    ]

pub packed_format : (more : ℕ) → IsFormat (packed_up_to more) (packed_text_up_to more) (λ n. n < 128 ^ suc more)
unfolding packed_up_to packed_text_up_to
packed_format zero = refit _ _ (λ n. (n < 256) × (ltb n 128 ≡ true)) _ (λ n h. ltb-true _ _ h.1) (λ n h. (omega (arith, h), lt-ltb n 128 h)) (when_format (λ b. ltb b 128) byte_at (λ b. b ∷ []) (λ b. b < 256) byte_format)
packed_format (suc more) =
    made_format packed_by packed_parts _ _ (Parts more) (λ n. n < 128 ^ suc (suc more)) (there more) (back more)
    (then_format byte_at (λ b. cond (ltb b 128) nothing_at (when_at (ltb 0) (packed_up_to more))) (λ b. b ∷ []) (λ b m. cond (ltb b 128) [] (packed_text_up_to more m)) (λ b. b < 256) (λ b. Follows (ltb b 128) more) byte_format (λ b _. rest_format more (packed_format more) (ltb b 128)))

pub packed_one_text : HasOneText packed_at packed_text HasPackedText
packed_one_text = one_text _ _ _ (refit _ _ (λ n. n < 128 ^ 7) HasPackedText (λ n h. omega (arith, h)) (λ n h. omega (arith, h)) (packed_format 6))
