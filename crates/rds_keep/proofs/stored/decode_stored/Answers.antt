use Rattle.std.proofs.Common.{arith}
use Rattle.rds_keep.proofs.stored.decode_stored.Goals as goal

pub returns-in-Ok-clause-stored : goal.returns-in-Ok-clause-stored
returns-in-Ok-clause-stored g c = rw c.in-Ok.ensures.parts c.decode_behind.ensures.stored

pub returns-in-Ok-clause-refused : goal.returns-in-Ok-clause-refused
returns-in-Ok-clause-refused g c = rw c.in-Ok.ensures.parts c.decode_behind.ensures.refused

pub returns-in-Ok-clause-at : goal.returns-in-Ok-clause-at
returns-in-Ok-clause-at g c = rw c.in-Ok.ensures.parts c.decode_behind.ensures.at

pub returns-in-Err-clause-at : goal.returns-in-Err-clause-at
returns-in-Err-clause-at g c = λ some. absurd (omega (arith, some))
