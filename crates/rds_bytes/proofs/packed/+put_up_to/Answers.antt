use Rattle.std.proofs.Common.{arith}
use Rattle.rds_bytes.proofs.WrittenPacked.{text_alone, adds_rest}
use Rattle.rds_bytes.proofs.packed.+put_up_to.Goals as goal

pub returns-then-number-lt128 : goal.returns-then-number-lt128
returns-then-number-lt128 t c =
    let text = text_alone c.args.more c.args.number c.if-number-lt128.true in
    rw text c.put_byte.ensures

pub returns : goal.returns
returns t c =
    adds_rest c.put_up_to.result c.args.out.now.items c.put_byte-2.new.out.items c.put_up_to.new.out.items c.args.more c.args.number c.requires (omega (arith, c.if-number-lt128.false)) c.in_ok-put_byte.ensures c.put_up_to.ensures
