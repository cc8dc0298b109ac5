use Rattle.std.proofs.lemmas.Result.{err_from_is_err_and}
use Rattle.rds_briefs.proofs.Fronts.{front_refused, front_cut, front_whole}
use Rattle.rds_briefs.proofs.briefs.read_front.Goals as goal

pub returns-in_err-progress : goal.returns-in_err-progress
returns-in_err-progress g c =
    let p = err_from_is_err_and c.from_residual.result c.from_residual.ensures.1 in
    rw (p.1, p.2) (front_refused g.U.Unfinished.finish c.args.unfinished c.args.bytes.now c.in_err-progress.field-0.0 c.in_err-progress.ensures.err)

pub returns-in-More : goal.returns-in-More
returns-in-More g c = front_cut g.U.Unfinished.finish c.args.unfinished c.args.bytes.now c.in_ok-progress.progress c.in-More.field-0 c.in_ok-progress.rest.now c.in-More.is c.in_ok-progress.ensures.ok

pub returns : goal.returns
returns g c = front_whole g.U.Unfinished.finish c.args.unfinished c.args.bytes.now c.in_ok-progress.progress c.in-Whole.whole c.in_ok-progress.rest.now c.in-Whole.is c.in_ok-progress.ensures.ok
