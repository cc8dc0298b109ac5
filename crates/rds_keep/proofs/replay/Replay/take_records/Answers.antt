use Rattle.std.proofs.Common.{ap, arith}
use Rattle.std.proofs.lemmas.Result.{err_from_is_err_and}
use Rattle.rds_keep.specs.Replay.{ReplayValue}
use Rattle.rds_keep.proofs.Replaying.{unredone}
use Rattle.rds_keep.proofs.ReplaySteps.{taken_on}
use Rattle.rds_keep.proofs.replay.Replay.take_records.Goals as goal

pub returns-in_err-redo-clause-stops : goal.returns-in_err-redo-clause-stops
returns-in_err-redo-clause-stops g c =
    let p = err_from_is_err_and c.from_residual-in_err-redo.result c.from_residual-in_err-redo.ensures.1 in
    let first = c.in-Some.ensures.first in
    rw (p.1, p.2)
    (unredone c.args.self.now c.taking.self c.redo.new.self c.args.bytes.now c.taking.rest.now c.in-Some.payload.now c.in-Some.behind.now _ c.taking.invariant.taken first.parts first.short
    c.in_err-redo.ensures.same c.in_err-redo.ensures.whole c.in_err-redo.ensures.refused)

pub taking-preserved : goal.taking-preserved
taking-preserved g c =
    let first = c.in-Some.ensures.first in
    taken_on c.args.self.now c.taking.self c.redo.new.self _ c.args.bytes.now c.taking.rest.now c.in-Some.payload.now c.in-Some.behind.now c.taking.invariant.taken first.parts first.short
    c.in_ok-redo.ensures.ok (ap (λ (v : ReplayValue). v.replica) c.self-in-Some.view_is) (omega (arith, c.in_ok-whole.ensures.ok, ap (λ (v : ReplayValue). v.whole) c.self.view_is)) c.requires.member
