use Rattle.std.proofs.Common.{◌≡◌, ◌++◌, length}
use Rattle.rds_bytes.specs.Numbers.{numbers_text}
use Rattle.rds_bytes.proofs.numbered.put_numbers.Given as goal

abbrev pub invariant-writing : goal.invariant-writing
invariant-writing l = l.out.items ++ numbers_text l.numbers ≡ l.fn.out.items ++ numbers_text l.fn.numbers

abbrev pub decreases-writing : goal.decreases-writing
decreases-writing l = length l.numbers
