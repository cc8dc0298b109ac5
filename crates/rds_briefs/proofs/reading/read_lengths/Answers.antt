use Rattle.std.proofs.Common.{refl, arith}
use Rattle.std.proofs.lemmas.Result.{err_from_is_err_and}
use Rattle.rds_briefs.specs.Lives.{stretch_at}
use Rattle.rds_briefs.proofs.LengthsRead.{lengths_begin, left_behind, front, is_packed, within, goes_on, ended}
use Rattle.rds_briefs.proofs.reading.read_lengths.Goals as goal

pub reading-init : goal.reading-init
reading-init g c = record {
  place = refl;
  from = omega arith;
  text = λ f end is. lengths_begin f c.args.first.replica c.args.first.seq c.args.count (g.S.DotSet.contents c.args.live.now) c.args.bytes.now end c.requires.some is;
}

pub returns-in_err-length : goal.returns-in_err-length
returns-in_err-length g c =
    let p = err_from_is_err_and c.from_residual.result c.from_residual.ensures.1 in
    rw (p.1, p.2) (λ f end is.
    let a = c.args.first in
    let old = g.S.DotSet.contents c.args.live.now in
    let now = g.S.DotSet.contents c.reading.live in
    let r = c.reading.invariant.text f end is in
    let m = stretch_at f c.reading.is_live c.reading.seq c.reading.left in
    c.in_err-length.ensures.text m (left_behind f a.replica a.seq old now c.reading.rest.now end c.reading.is_live c.reading.seq c.reading.left r m)
    (is_packed f a.replica a.seq old now c.reading.rest.now end c.reading.is_live c.reading.seq c.reading.left r c.args.count c.reading.invariant.place c.requires.most)
    (front f a.replica a.seq old now c.reading.rest.now end c.reading.is_live c.reading.seq c.reading.left r c.reading-test.true))

pub returns-then-left-length : goal.returns-then-left-length
returns-then-left-length g c = λ f end is.
    let a = c.args.first in
    let old = g.S.DotSet.contents c.args.live.now in
    let now = g.S.DotSet.contents c.reading.live in
    let r = c.reading.invariant.text f end is in
    let m = stretch_at f c.reading.is_live c.reading.seq c.reading.left in
    let got = c.in_ok-length.ensures.text m (left_behind f a.replica a.seq old now c.reading.rest.now end c.reading.is_live c.reading.seq c.reading.left r m)
    (is_packed f a.replica a.seq old now c.reading.rest.now end c.reading.is_live c.reading.seq c.reading.left r c.args.count c.reading.invariant.place c.requires.most)
    (front f a.replica a.seq old now c.reading.rest.now end c.reading.is_live c.reading.seq c.reading.left r c.reading-test.true) in
    absurd (within f a.replica a.seq old now c.reading.rest.now end c.reading.is_live c.reading.seq c.reading.left r c.in_ok-length.length got.0 c.if-left-length.true)

pub put_stretch-requires-clause-from_one : goal.put_stretch-requires-clause-from_one
put_stretch-requires-clause-from_one g c = omega (arith, c.requires.from_one, c.reading.invariant.from)

pub put_stretch-requires-clause-most : goal.put_stretch-requires-clause-most
put_stretch-requires-clause-most g c = omega (arith, c.requires.most, c.reading.invariant.place, c.if-left-length.false)

pub reading-preserved : goal.reading-preserved
reading-preserved g c =
    let from = c.reading.invariant.from in
    let place = c.reading.invariant.place in
    let le = c.if-left-length.false in
    record {
      place = omega (arith, place, le);
      from = omega (arith, from);
      text = λ f end is. (
          let a = c.args.first in
          let old = g.S.DotSet.contents c.args.live.now in
          let now = g.S.DotSet.contents c.reading.live in
          let r = c.reading.invariant.text f end is in
          let m = stretch_at f c.reading.is_live c.reading.seq c.reading.left in
          let got = c.in_ok-length.ensures.text m (left_behind f a.replica a.seq old now c.reading.rest.now end c.reading.is_live c.reading.seq c.reading.left r m)
          (is_packed f a.replica a.seq old now c.reading.rest.now end c.reading.is_live c.reading.seq c.reading.left r c.args.count place c.requires.most)
          (front f a.replica a.seq old now c.reading.rest.now end c.reading.is_live c.reading.seq c.reading.left r c.reading-test.true) in
          goes_on f a.replica a.seq old now c.reading.rest.now end c.reading.is_live c.reading.seq c.reading.left r c.in_ok-length.length c.in_ok-length.after.now (g.S.DotSet.contents c.put_stretch.new.live) from got.0 got.1 c.in_ok-put_stretch.ensures);
    }

pub returns : goal.returns
returns g c = λ f end is.
    let a = c.args.first in
    ended f a.replica a.seq (g.S.DotSet.contents c.args.live.now) (g.S.DotSet.contents c.reading.live) c.reading.rest.now end c.reading.is_live c.reading.seq c.reading.left (c.reading.invariant.text f end is) c.args.count (omega (arith, c.reading-test.false)) c.reading.invariant.place

pub overflow_add-seq : goal.overflow_add-seq
overflow_add-seq g c = omega (arith, c.requires.most, c.reading.invariant.place, c.if-left-length.false)

pub reading-smaller : goal.reading-smaller
reading-smaller g c = c.in_ok-length.ensures.fewer
