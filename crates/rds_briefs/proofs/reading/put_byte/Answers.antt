use Rattle.std.proofs.Common.{refl, arith}
use Rattle.rds_briefs.proofs.BitsRead.{byte_begins, byte_goes_on, byte_ends}
use Rattle.rds_briefs.proofs.reading.put_byte.Goals as goal

pub reading-init : goal.reading-init
reading-init g c = record { place = refl; from = omega arith; text = λ f is. byte_begins f c.args.first.replica c.args.first.seq c.args.count c.args.byte (g.S.DotSet.contents c.args.live.now) is }

pub reading-preserved : goal.reading-preserved
reading-preserved g c =
    let from = c.reading.invariant.from in
    let place = c.reading.invariant.place in
    let some = c.reading-test.true in
    record {
      place = omega (arith, place, some);
      from = omega (arith, from);
      text = λ f is. byte_goes_on f c.args.first.replica c.args.first.seq c.reading.bits c.reading.seq c.reading.left (g.S.DotSet.contents c.args.live.now) (g.S.DotSet.contents c.reading.live) (g.S.DotSet.contents c.put_stretch.new.live) from some (c.reading.invariant.text f is) c.in_ok-put_stretch.ensures;
    }

pub returns : goal.returns
returns g c = λ f is. byte_ends f c.args.first.replica c.args.first.seq c.reading.bits c.reading.seq c.reading.left c.args.count (g.S.DotSet.contents c.args.live.now) (g.S.DotSet.contents c.reading.live) (omega (arith, c.reading-test.false)) c.reading.invariant.place (c.reading.invariant.text f is)
