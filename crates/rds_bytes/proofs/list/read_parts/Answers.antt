use Rattle.std.proofs.Common.{[]}
use Rattle.std.proofs.lemmas.Result.{err_from_is_err_and}
use Rattle.rds_bytes.specs.Reading.{rows_after}
use Rattle.rds_bytes.proofs.Loops.{goes_on, ends, is_done}
use Rattle.rds_bytes.proofs.list.read_parts.Goals as goal

pub returns-in_err-part : goal.returns-in_err-part
returns-in_err-part g c =
    let f = g.R.PartReader.reader c.args.reader.now in
    let p = err_from_is_err_and c.from_residual.result c.from_residual.ensures.1 in
    rw (p.1, p.2) (ends f c.loop.parts.items c.args.count c.loop.counter c.loop.rest.now (rows_after f [] c.args.count c.args.bytes.now) c.in_err-part.field-0.0 c.loop-test.true (rw c.deref.ensures.value at c.in_err-part.ensures) c.loop.invariant)

pub loop-preserved : goal.loop-preserved
loop-preserved g c =
    let f = g.R.PartReader.reader c.args.reader.now in
    rw c.in_ok-push.ensures.items (goes_on f c.loop.parts.items c.args.count c.loop.counter c.loop.rest.now (rows_after f [] c.args.count c.args.bytes.now) c.in_ok-part.part c.in_ok-part.after.now c.loop-test.true (rw c.deref.ensures.value at c.in_ok-part.ensures) c.loop.invariant)

pub returns : goal.returns
returns g c =
    let f = g.R.PartReader.reader c.args.reader.now in
    is_done f c.loop.parts.items c.args.count c.loop.counter c.loop.rest.now (rows_after f [] c.args.count c.args.bytes.now) c.loop-test.false c.loop.invariant
