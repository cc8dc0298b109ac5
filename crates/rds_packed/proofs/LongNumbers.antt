-- The text of a number that is too great to be packed.
use Rattle.std.proofs.Common.{◌≡◌, ℕ, zero, suc, ◌+◌, ◌/◌, ◌%◌, ◌^◌, ◌≤◌, false, ltb, length, refl, ap, arith}
use Rattle.std.proofs.lemmas.Bool.{le-ltb}
use Rattle.rds_bytes.specs.Packed.{packed_text_up_to, packed_text}

long_text : (more n : ℕ) → 128 ^ suc more ≤ n → length (packed_text_up_to more n) ≡ suc more
unfolding packed_text_up_to
long_text zero n le = refl
long_text (suc more) n le =
    let large : 128 ≤ n = above more n le in
    let is : ltb n 128 ≡ false = le-ltb n 128 large in
    let high : ltb (128 + n % 128) 128 ≡ false = le-ltb _ _ (omega arith) in
    let rest = long_text more (n / 128) (omega (arith, le)) in
    rw (is, high) (ap suc rest)
  where
    above : (more n : ℕ) → 128 ^ suc (suc more) ≤ n → 128 ≤ n
    above zero n le = omega (arith, le)
    above (suc more) n le = above more n (omega (arith, le))

pub longest_text : (n : ℕ) → 562949953421312 ≤ n → length (packed_text n) ≡ 7
longest_text n le = long_text 6 n (omega (arith, le))
