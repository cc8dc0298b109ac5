use Rattle.std.proofs.Common.{◌∷◌, [], arith}
use Rattle.rds_bytes.specs.Packed.{packed_text}
use Rattle.rds_packed.proofs.Steps.{far_text, adds_three}
use Rattle.rds_packed.proofs.dots.put_step.Goals as goal

pub returns : goal.returns
returns c =
    let text = far_text c.args.from c.args.dot (λ same. omega (arith, same, c.if-dot-from.false)) in
    rw text
    (adds_three c.put_packed-2.result c.args.out.now.items c.put_byte.new.out.items c.put_byte-2.new.out.items c.put_packed-2.new.out.items (0 ∷ []) (c.args.dot.replica ∷ []) (packed_text c.args.dot.seq)
    c.in_ok-put_byte.ensures c.in_ok-put_byte-2.ensures c.put_packed-2.ensures)
