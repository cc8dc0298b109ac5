use Rattle.std.proofs.lemmas.Result.{err_from_is_err_and}
use Rattle.rds_keep.proofs.LedSoFar.{step_front, step_short}
use Rattle.rds_keep.proofs.leading.decode_leading.Goals as goal

pub returns-in_err-progress-clause-refused : goal.returns-in_err-progress-clause-refused
returns-in_err-progress-clause-refused g c =
    let p = err_from_is_err_and c.from_residual.result c.from_residual.ensures.1 in
    rw (p.1, p.2) (step_front g.U.Unfinished.finish c.args.unfinished c.args.bytes.now _ c.in_err-progress.ensures.err)

pub returns-in-More-clause-refused : goal.returns-in-More-clause-refused
returns-in-More-clause-refused g c = step_short g.U.Unfinished.finish c.args.unfinished _ c.args.bytes.now c.in_ok-progress.rest.now c.in_ok-progress.progress c.in-More.is c.in_ok-progress.ensures.ok
