use Rattle.std.proofs.Common.{◌+◌, ◌-◌, List, ℕ, [], ◌∷◌, subst, arith}
use Rattle.rds_briefs.specs.Lives.{lives_in}
use Rattle.rds_briefs.specs.BriefTexts.{bits_text}
use Rattle.rds_briefs.proofs.Putting.{IsPutting, put_more, put_ends}
use Rattle.rds_briefs.proofs.BitSteps.{next_put, no_bits}
use Rattle.rds_briefs.proofs.writing.put_bits.Goals as goal

pub telling-preserved : goal.telling-preserved
telling-preserved g c =
    let f = lives_in (g.S.DotSet.contents c.args.live.now) c.args.first.replica in
    let old = c.args.text.now in
    let now = c.telling.text in
    let many = c.in_a_byte-many.result in
    let byte = c.byte_of.result in
    let whole = bits_text f c.args.first.seq c.args.count in
    let rest = bits_text f (c.telling.seq + many) (c.telling.left - many) in
    let is = next_put f c.telling.seq c.telling.left many byte c.telling-test.true c.in_a_byte-many.ensures.exact c.byte_of.ensures in
    let place = c.telling.invariant.place in
    let within = c.in_a_byte-many.ensures.within in
    record {
      put = put_more old now c.put_byte.new.self (byte ∷ []) rest whole (subst (λ (l : List ℕ). IsPutting old now l whole) is c.telling.invariant.put) c.put_byte.ensures;
      place = omega (arith, place, within);
    }

pub returns : goal.returns
returns g c =
    let f = lives_in (g.S.DotSet.contents c.args.live.now) c.args.first.replica in
    let whole = bits_text f c.args.first.seq c.args.count in
    put_ends c.args.text.now c.telling.text whole (subst (λ (l : List ℕ). IsPutting c.args.text.now c.telling.text l whole) (no_bits f c.telling.seq c.telling.left (omega (arith, c.telling-test.false))) c.telling.invariant.put)
