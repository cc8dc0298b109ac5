use Rattle.std.proofs.Common.{arith}
use Rattle.rds_packed.proofs.Steps.{far_text}
use Rattle.rds_packed.proofs.dots.step_length.Goals as goal

pub returns-clause-length : goal.returns-clause-length
returns-clause-length c =
    let text = far_text c.args.from c.args.dot (λ same. omega (arith, same, c.if-dot-from.false)) in
    let rest = c.packed_length-2.ensures.length in
    rw text (omega (arith, rest))
