use Rattle.std.proofs.Common.{◌∙◌, ap, refl, sym, arith}
use Rattle.std.proofs.lemmas.Result.{err_from_is_err_and}
use Rattle.rds_briefs.specs.Lives.{byte_from}
use Rattle.rds_briefs.proofs.BitsRead.{bits_begin, no_byte, the_byte, bits_front, bits_go_on, bits_end}
use Rattle.rds_briefs.proofs.reading.read_bits.Goals as goal

pub reading-init : goal.reading-init
reading-init g c = record {
  place = refl;
  from = omega arith;
  text = λ f end is. bits_begin f c.args.first.replica c.args.first.seq c.args.count (g.S.DotSet.contents c.args.live.now) c.args.bytes.now end is;
}

pub returns-in_err-byte : goal.returns-in_err-byte
returns-in_err-byte g c =
    let p = err_from_is_err_and c.from_residual.result c.from_residual.ensures.1 in
    rw (p.1, p.2) (λ f end is.
    let a = c.args.first in
    let old = g.S.DotSet.contents c.args.live.now in
    let now = g.S.DotSet.contents c.reading.live in
    let front = bits_front f a.replica a.seq old now c.reading.rest.now end c.reading.seq c.reading.left (c.reading.invariant.text f end is) c.reading-test.true in
    absurd (no_byte c.reading.rest.now _ _ c.in_err-byte.field-0.0 front c.in_err-byte.ensures))

pub returns-in_err-put_byte : goal.returns-in_err-put_byte
returns-in_err-put_byte g c =
    let p = err_from_is_err_and c.from_residual-in_err-put_byte.result c.from_residual-in_err-put_byte.ensures.1 in
    rw (p.1, p.2) (λ f end is.
    let a = c.args.first in
    let old = g.S.DotSet.contents c.args.live.now in
    let now = g.S.DotSet.contents c.reading.live in
    let front = bits_front f a.replica a.seq old now c.reading.rest.now end c.reading.seq c.reading.left (c.reading.invariant.text f end is) c.reading-test.true in
    let byte = the_byte c.reading.rest.now c.in_ok-byte.after.now _ c.in_ok-byte.byte _ front c.in_ok-byte.ensures in
    c.in_err-put_byte.ensures f (byte.0 ∙ ap (byte_from f c.reading.seq) (sym c.in_a_byte-many.ensures.exact)))

pub reading-preserved : goal.reading-preserved
reading-preserved g c =
    let from = c.reading.invariant.from in
    let place = c.reading.invariant.place in
    let within = c.in_a_byte-many.ensures.within in
    record {
      place = omega (arith, place, within);
      from = omega (arith, from);
      text = λ f end is. (
          let a = c.args.first in
          let old = g.S.DotSet.contents c.args.live.now in
          let now = g.S.DotSet.contents c.reading.live in
          let r = c.reading.invariant.text f end is in
          let front = bits_front f a.replica a.seq old now c.reading.rest.now end c.reading.seq c.reading.left r c.reading-test.true in
          let byte = the_byte c.reading.rest.now c.in_ok-byte.after.now _ c.in_ok-byte.byte _ front c.in_ok-byte.ensures in
          bits_go_on f a.replica a.seq old now c.reading.rest.now end c.reading.seq c.reading.left r c.in_a_byte-many.result c.in_ok-byte.after.now (g.S.DotSet.contents c.put_byte.new.live) from c.in_a_byte-many.ensures.exact byte.1
          (c.in_ok-put_byte.ensures f (byte.0 ∙ ap (byte_from f c.reading.seq) (sym c.in_a_byte-many.ensures.exact))));
    }

pub returns : goal.returns
returns g c = λ f end is.
    let a = c.args.first in
    bits_end f a.replica a.seq (g.S.DotSet.contents c.args.live.now) (g.S.DotSet.contents c.reading.live) c.reading.rest.now end c.reading.seq c.reading.left (c.reading.invariant.text f end is) c.args.count (omega (arith, c.reading-test.false)) c.reading.invariant.place

pub put_byte-requires-clause-from_one : goal.put_byte-requires-clause-from_one
put_byte-requires-clause-from_one g c = omega (arith, c.requires.from_one, c.reading.invariant.from)

pub put_byte-requires-clause-most : goal.put_byte-requires-clause-most
put_byte-requires-clause-most g c = omega (arith, c.requires.most, c.reading.invariant.place, c.in_a_byte-many.ensures.within)

pub overflow_add-seq : goal.overflow_add-seq
overflow_add-seq g c = omega (arith, c.requires.most, c.reading.invariant.place, c.in_a_byte-many.ensures.within)
