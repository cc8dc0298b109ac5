use Rattle.std.proofs.Common.{◌+◌, ◌-◌, true, false, sym, ◌∙◌, arith}
use Rattle.rds_briefs.specs.Lives.{lives_in}
use Rattle.rds_briefs.proofs.BitSteps.{byte_small, byte_none, byte_before}
use Rattle.rds_briefs.proofs.writing.byte_of.Goals as goal

pub telling-init : goal.telling-init
telling-init g c = record { few = omega arith; byte = byte_none _ _ _ (omega arith) }

pub overflow_mul-byte : goal.overflow_mul-byte
overflow_mul-byte g c =
    let f = lives_in (g.S.DotSet.contents c.args.live.now) c.args.first.replica in
    let few = c.requires.few in
    let some = c.telling-test.true in
    let small = byte_small f (c.args.first.seq + c.telling.left) (c.args.count - c.telling.left) (omega arith) in
    let is = c.telling.invariant.byte in
    omega (arith, small, is)

pub overflow_add-byte : goal.overflow_add-byte
overflow_add-byte g c =
    let f = lives_in (g.S.DotSet.contents c.args.live.now) c.args.first.replica in
    let few = c.requires.few in
    let some = c.telling-test.true in
    let small = byte_small f (c.args.first.seq + c.telling.left) (c.args.count - c.telling.left) (omega arith) in
    let is = c.telling.invariant.byte in
    omega (arith, small, is)

pub telling-preserved-then-contains : goal.telling-preserved-then-contains
telling-preserved-then-contains g c =
    let f = lives_in (g.S.DotSet.contents c.args.live.now) c.args.first.replica in
    let few = c.telling.invariant.few in
    record {
      few = omega (arith, few);
      byte = byte_before f c.args.first.seq c.telling.left c.args.count c.telling.byte true c.telling-test.true few c.telling.invariant.byte (sym c.contains.ensures ∙ c.if-contains.true);
    }

pub telling-preserved : goal.telling-preserved
telling-preserved g c =
    let f = lives_in (g.S.DotSet.contents c.args.live.now) c.args.first.replica in
    let few = c.telling.invariant.few in
    let more = byte_before f c.args.first.seq c.telling.left c.args.count c.telling.byte false c.telling-test.true few c.telling.invariant.byte (sym c.contains.ensures ∙ c.if-contains.false) in
    record { few = omega (arith, few); byte = omega (arith, more) }
