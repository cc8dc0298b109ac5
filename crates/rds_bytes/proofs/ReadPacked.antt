-- Steps of reading a packed number.
use Rattle.std.proofs.Common.{◌≡◌, ◌≢◌, ℕ, zero, suc, ◌+◌, ◌-◌, ◌*◌, ◌^◌, ◌<◌, ◌≤◌, Bool, true, false, cond, ltb, List, [], ◌∷◌, Result, Ok, Err, refl, sym, ap, ◌∙◌, arith}
use Rattle.std.proofs.lemmas.Bool.{lt-ltb, le-ltb}
use Rattle.rds_names.specs.declared.fault.Fault.{Fault}
use Rattle.rds_names.specs.declared.fault.Fault.TheVariants.{Bad}
use Rattle.rds_bytes.specs.Packed.{packed_by, packed_up_to}
use Rattle.rds_bytes.specs.Reading.{byte_at}
use Rattle.rds_bytes.proofs.Format.{IsBytes, byte_format}

-- no first byte
pub first_fails : (more : ℕ) (bytes : List ℕ) (e : Fault) → byte_at bytes ≡ Err e → packed_up_to more bytes ≡ Err e
unfolding packed_up_to
first_fails zero bytes e h = rw h refl
first_fails (suc more) bytes e h = rw h refl

-- a first byte that is the last
pub first_alone : (more : ℕ) (bytes : List ℕ) (b : ℕ) (rest : List ℕ) → byte_at bytes ≡ Ok (b, rest) → b < 128 → packed_up_to more bytes ≡ Ok (b, rest)
unfolding packed_up_to
first_alone zero bytes b rest h lt = (let is = lt-ltb b 128 lt in rw (h, is) refl)
first_alone (suc more) bytes b rest h lt = (let is = lt-ltb b 128 lt in rw (h, is, is) refl)

-- no byte may follow it
pub first_only : (more : ℕ) (bytes : List ℕ) (b : ℕ) (rest : List ℕ) → byte_at bytes ≡ Ok (b, rest) → 128 ≤ b → more ≡ 0 → packed_up_to more bytes ≡ Err Bad
unfolding packed_up_to
first_only zero bytes b rest h le e = (let is = le-ltb b 128 le in rw (h, is) refl)
first_only (suc more) bytes b rest h le e = absurd (omega (arith, e))

-- what follows it isn't read
pub rest_fails : (more n : ℕ) (bytes : List ℕ) (b : ℕ) (rest : List ℕ) (e : Fault) → more ≡ suc n → byte_at bytes ≡ Ok (b, rest) → 128 ≤ b → packed_up_to n rest ≡ Err e → packed_up_to more bytes ≡ Err e
unfolding packed_up_to
rest_fails more n bytes b rest e same h le f = (let is = le-ltb b 128 le in ap (λ (k : ℕ). packed_up_to k bytes) same ∙ rw (h, is, f) refl)

-- what follows it is 0
pub rest_zero : (more n : ℕ) (bytes : List ℕ) (b : ℕ) (rest : List ℕ) (m : ℕ) (last : List ℕ) → more ≡ suc n → byte_at bytes ≡ Ok (b, rest) → 128 ≤ b → packed_up_to n rest ≡ Ok (m, last) → m ≡ 0 → packed_up_to more bytes ≡ Err Bad
unfolding packed_up_to
rest_zero more n bytes b rest m last same h le f e = (let is = le-ltb b 128 le in ap (λ (k : ℕ). packed_up_to k bytes) same ∙ rw (h, is, f, e) refl)

-- what follows it is read
pub rest_joins : (more n : ℕ) (bytes : List ℕ) (b : ℕ) (rest : List ℕ) (m : ℕ) (last : List ℕ) → more ≡ suc n → byte_at bytes ≡ Ok (b, rest) → 128 ≤ b → packed_up_to n rest ≡ Ok (m, last) → 0 < m → packed_up_to more bytes ≡ Ok ((b - 128) + 128 * m, last)
unfolding packed_up_to
rest_joins more n bytes b rest m last same h le f p = (let is = le-ltb b 128 le in let some = lt-ltb 0 m p in ap (λ (k : ℕ). packed_up_to k bytes) same ∙ rw (h, is, f, some, is) refl)

pub byte_below : (bytes : List ℕ) (b : ℕ) (rest : List ℕ) → IsBytes bytes → byte_at bytes ≡ Ok (b, rest) → b < 256
byte_below bytes b rest fits h = (byte_format.takes bytes (b, rest) fits h).1

pub small_below : (more b : ℕ) → b < 128 → b < 128 ^ suc more
small_below zero b lt = omega (arith, lt)
small_below (suc more) b lt = (let less = small_below more b lt in omega (arith, less))

-- so its 128-fold and a byte fit a number of eight bytes
pub high_below : (more m : ℕ) → more ≤ 6 → 0 < more → m < 128 ^ suc (more - 1) → m < 2 ^ 49
high_below zero m le lt h = absurd (omega (arith, lt))
high_below (suc zero) m le lt h = omega (arith, h)
high_below (suc (suc zero)) m le lt h = omega (arith, h)
high_below (suc (suc (suc zero))) m le lt h = omega (arith, h)
high_below (suc (suc (suc (suc zero)))) m le lt h = omega (arith, h)
high_below (suc (suc (suc (suc (suc zero))))) m le lt h = omega (arith, h)
high_below (suc (suc (suc (suc (suc (suc zero)))))) m le lt h = omega (arith, h)
high_below (suc (suc (suc (suc (suc (suc (suc more))))))) m le lt h = absurd (omega (arith, le))
