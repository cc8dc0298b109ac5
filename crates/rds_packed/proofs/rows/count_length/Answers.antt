use Rattle.std.proofs.Common.{sym, arith}
use Rattle.rds_packed.proofs.LongNumbers.{longest_text}
use Rattle.rds_packed.proofs.rows.count_length.Goals as goal

pub returns-then-count-gt-MAX_PACKED-clause-length : goal.returns-then-count-gt-MAX_PACKED-clause-length
returns-then-count-gt-MAX_PACKED-clause-length c = sym (longest_text c.args.count (omega (arith, c.if-count-gt-MAX_PACKED.true)))
