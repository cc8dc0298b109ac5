use Rattle.std.proofs.Common.{◌≡◌, ◌++◌, length}
use Rattle.rds_packed.specs.PackedTexts.{packed_numbers_text}
use Rattle.rds_packed.proofs.entries.put_numbers.Given as goal

abbrev pub invariant-writing : goal.invariant-writing
invariant-writing l = l.out.items ++ packed_numbers_text l.numbers ≡ l.fn.out.items ++ packed_numbers_text l.fn.numbers

abbrev pub decreases-writing : goal.decreases-writing
decreases-writing l = length l.numbers
