-- Numbers in as few bytes as they take: seven bits a byte, the lowest first, and 128 more on each byte but the last.
use Rattle.std.specs.Prelude.{ℕ, zero, suc, ◌+◌, ◌-◌, ◌*◌, ◌/◌, ◌%◌, ◌≤◌, nat_lt, if◌then◌else◌, List, [], ◌∷◌, Ok}
use Rattle.rds_bytes.specs.declared.packed.TheConstants.{MAX_PACKED}
use Rattle.rds_bytes.specs.Reading.{Reader, made_at, then_at, when_at, byte_at}

-- the first byte of a number, and what is left for those after it
abbrev pub packed_parts : ℕ → ℕ × ℕ
packed_parts n = if nat_lt n 128 then (n, 0) else (128 + n % 128, n / 128)

-- the number of a first byte and what stands after it
abbrev pub packed_by : ℕ × ℕ → ℕ
packed_by p = if nat_lt p.0 128 then p.0 else (p.0 - 128) + 128 * p.1

abbrev pub nothing_at : Reader ℕ
nothing_at bytes = Ok (0, bytes)

-- a number of one byte, and so many more at most; the last byte of several isn't 0
unfoldable pub packed_up_to : ℕ → Reader ℕ
packed_up_to zero = when_at (λ b. nat_lt b 128) byte_at
packed_up_to (suc more) =
    made_at packed_by
    (then_at byte_at (λ b. if nat_lt b 128 then nothing_at else when_at (nat_lt 0) (packed_up_to more)))

unfoldable pub packed_text_up_to : ℕ → ℕ → List ℕ
packed_text_up_to zero n = n ∷ []
packed_text_up_to (suc more) n =
    (packed_parts n).0 ∷ (if nat_lt (packed_parts n).0 128 then [] else packed_text_up_to more (packed_parts n).1)

-- a number of seven bytes at most
abbrev pub packed_at : Reader ℕ
packed_at = packed_up_to 6

abbrev pub packed_text : ℕ → List ℕ
packed_text = packed_text_up_to 6

abbrev pub HasPackedText : ℕ → Type 0
HasPackedText n = n ≤ MAX_PACKED
