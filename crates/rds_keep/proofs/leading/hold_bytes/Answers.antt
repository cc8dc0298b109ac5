use Rattle.std.proofs.Common.{arith}
use Rattle.rds_keep.proofs.leading.hold_bytes.Goals as goal

pub returns : goal.returns
returns c = λ i. omega (arith, c.type_inv.bytes i)
