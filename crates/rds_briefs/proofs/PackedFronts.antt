-- A packed number at the front of bytes.
use Rattle.std.proofs.Common.{◌≡◌, ℕ, zero, suc, ◌<◌, ◌≤◌, List, ◌++◌, length, Ok, Err, Result, sym, ◌∙◌, ap, arith, length-append}
use Rattle.rds_names.specs.declared.fault.Fault.{Fault}
use Rattle.rds_names.specs.declared.fault.Fault.TheVariants.{Memory}
use Rattle.rds_bytes.specs.declared.packed.TheConstants.{MAX_PACKED}
use Rattle.rds_bytes.specs.OneText.{HasOneText, AreBytes}
use Rattle.rds_bytes.specs.Packed.{packed_at, packed_text, packed_text_up_to, HasPackedText}
use Rattle.rds_bytes.proofs.Format.{ok_is}

text_some : (more n : ℕ) → 1 ≤ length (packed_text_up_to more n)
unfolding packed_text_up_to
text_some zero n = omega arith
text_some (suc more) n = omega arith

module _ (law : HasOneText packed_at packed_text HasPackedText) (bytes : List ℕ) where
  pub packed_found : (number n : ℕ) (after rest : List ℕ) → packed_at bytes ≡ Ok (number, after) → n ≤ MAX_PACKED → bytes ≡ packed_text n ++ rest → (number ≡ n) × (after ≡ rest)
  packed_found number n after rest read le is =
      let e : (number, after) ≡ (n, rest) = ok_is (number, after) (n, rest) (sym read ∙ ap packed_at is ∙ law.taken n rest le) in
      (ap (λ (x : ℕ × List ℕ). x.0) e, ap (λ (x : ℕ × List ℕ). x.1) e)

  pub packed_kept : (e : Fault) (n : ℕ) (rest : List ℕ) → packed_at bytes ≡ Err e → n ≤ MAX_PACKED → bytes ≡ packed_text n ++ rest → e ≡ Memory
  packed_kept e n rest read le is =
      let bad : ◌≡◌ {A = Result (ℕ × List ℕ) Fault} (Err e) (Ok (n, rest)) = sym read ∙ ap packed_at is ∙ law.taken n rest le in absurd cc

  pub packed_fewer : AreBytes bytes → (number : ℕ) (after : List ℕ) → packed_at bytes ≡ Ok (number, after) → length after < length bytes
  packed_fewer fits number after read =
      let is = (law.spelled bytes number after fits read).0 in
      let len = ap length is ∙ length-append (packed_text number) after in
      let some = text_some 6 number in omega arith
