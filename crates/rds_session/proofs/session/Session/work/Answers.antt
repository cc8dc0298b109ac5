use Rattle.std.proofs.lemmas.Result.{err_from_is_err_and}
use Rattle.rds_session.specs.Steps.{came}
use Rattle.rds_session.proofs.Course.{at_first, client_begins}
use Rattle.rds_session.proofs.session.Session.work.Goals as goal

pub returns-in_err-open-clause-works : goal.returns-in_err-open-clause-works
returns-in_err-open-clause-works g c =
    let p = err_from_is_err_and c.from_residual.result c.from_residual.ensures.1 in
    let e = c.in_err-open.ensures.does in
    rw (p.1, p.2) (e.0, at_first c.args.self.now (came c.args.input) c.open.new.self.received e.1, client_begins c.args.self.now (came c.args.input) c.in_err-open.ensures.begins)
