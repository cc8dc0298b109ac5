use Rattle.std.proofs.Common.{arith}
use Rattle.rds_journal.proofs.torn.is_torn.Goals as goal

pub returns : goal.returns
returns c = (
  λ yes. record { short = c.if-rest.false; few = omega (arith, c.claimed_in_all.ensures); none = c.has_no_record.ensures.0 yes },
  λ torn. c.has_no_record.ensures.1 torn.none,
)
