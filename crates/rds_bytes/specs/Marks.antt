-- Marks of keys: a number made of all bytes of a key, by which most keys are told apart at once.
use Rattle.std.specs.Prelude.{ℕ, ◌+◌, ◌-◌, ◌*◌, ◌/◌, ◌%◌, ◌^◌, nat_lt, if◌then◌else◌, List, length, drop, bit_xor, fold}
use Rattle.std.specs.Int.{w64, from_le_bytes}
use Rattle.std.specs.Simd.{first_chunks}

-- a number, with another mixed in: both halves of a product, so that each bit tells on each
unfoldable pub mixed : ℕ → ℕ → ℕ
mixed mark word = (let product = bit_xor mark word * 0x9e3779b97f4a7c15 in bit_xor (product % 2 ^ 64) (product / 2 ^ 64))

-- a number, with a byte put behind it
unfoldable pub with_byte : ℕ → ℕ → ℕ
with_byte word byte = (word * 256 % 2 ^ 64 + byte) % 2 ^ 64

-- the last eight bytes as a number, or all where they are fewer
abbrev pub last_eight : List ℕ → ℕ
last_eight bytes = if nat_lt (length bytes) 8 then fold with_byte 0 bytes else from_le_bytes w64 (drop (length bytes - 8) bytes)

-- eight bytes at a time are mixed in, and then the last eight, which have those that are left
unfoldable pub mark : List ℕ → ℕ
mark bytes = mixed (fold (λ m word. mixed m (from_le_bytes w64 word)) 0 (first_chunks 8 (length bytes / 8) bytes)) (last_eight bytes)
