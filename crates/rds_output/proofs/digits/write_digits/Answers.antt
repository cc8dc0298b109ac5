use Rattle.std.proofs.Common.{rules, arith, ◌∙◌, ◌+◌, ◌-◌, ◌%◌}
use Rattle.rds_output.proofs.DigitsSoFar.{last_digit, next_digit, none_so_far}
use Rattle.std.proofs.lemmas.List.{length-set}
use Rattle.rds_output.proofs.digits.write_digits.Goals as goal

pub digits-init : goal.digits-init
digits-init c = (none_so_far c.args.number c.args.bytes.now (omega arith) (search rules), search rules)

pub overflow_sub-at : goal.overflow_sub-at
overflow_sub-at c = c.digits.invariant.0.room

pub returns-then-left-eq0-clause-digits : goal.returns-then-left-eq0-clause-digits
returns-then-left-eq0-clause-digits c = last_digit c.args.number c.digits.left c.digits.at c.digits.bytes (search rules) c.digits.invariant.0

pub digits-preserved : goal.digits-preserved
digits-preserved c = (next_digit c.args.number c.digits.left c.digits.at c.digits.bytes (search rules) c.digits.invariant.0, length-set c.digits.bytes (c.digits.at - 1) (48 + c.digits.left % 10) ∙ c.digits.invariant.1)
