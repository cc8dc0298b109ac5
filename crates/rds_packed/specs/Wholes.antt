-- How a whole number is written.
use Rattle.std.specs.Prelude.{◌≡◌, ◌≤◌, true, ℤ, pos, negsuc}
use Rattle.std.specs.Int.{w64, cast_unsigned}
use Rattle.rds_bytes.specs.declared.packed.TheConstants.{MAX_PACKED}
use Rattle.rds_packed.specs.declared.scalars.Whole.{Whole}
use Rattle.rds_packed.specs.declared.scalars.Whole.TheVariants.{Rising, Falling, Wide}
use Rattle.rds_packed.specs.PackedReading.{is_wide}

-- packed, where it can be; else its bits
abbrev pub IsWholeOf : ℤ → Whole → Type 0
IsWholeOf z (Rising n) = (z ≡ pos n) × (n ≤ MAX_PACKED)
IsWholeOf z (Falling n) = (z ≡ negsuc n) × (n ≤ MAX_PACKED)
IsWholeOf z (Wide bits) = (is_wide z ≡ true) × (bits ≡ cast_unsigned w64 z)
