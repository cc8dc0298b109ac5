use Rattle.std.proofs.Common.{◌≡◌, ◌+◌, ◌*◌, ◌≤◌, length}
use Rattle.rds_packed.specs.PackedTexts.{packed_numbers_text}
use Rattle.rds_packed.proofs.entries.numbers_length.Given as goal

abbrev pub invariant-measuring : goal.invariant-measuring
invariant-measuring l = (l.total + length (packed_numbers_text l.numbers) ≡ length (packed_numbers_text l.fn.numbers)) × (l.total + 7 * length l.numbers ≤ 56)

abbrev pub decreases-measuring : goal.decreases-measuring
decreases-measuring l = length l.numbers
