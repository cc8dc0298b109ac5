use Rattle.std.proofs.Common.{◌≡◌, length}
use Rattle.rds_output.proofs.DigitsSoFar.{AreDigitsSoFar}
use Rattle.rds_output.proofs.digits.write_digits.Given as goal

abbrev pub invariant-digits : goal.invariant-digits
invariant-digits l = AreDigitsSoFar l.number l.left l.at l.bytes × (length l.bytes ≡ 39)

abbrev pub decreases-digits : goal.decreases-digits
decreases-digits l = l.at
