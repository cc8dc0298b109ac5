use Rattle.std.proofs.Common.{◌≡◌, ◌<◌, length, length-append, refl, ap, ◌∙◌, arith, rules}
use Rattle.std.proofs.lemmas.Result.{err_from_is_err_and}
use Rattle.rds_session.specs.Session.{Standing}
use Rattle.rds_session.proofs.Runs.{ran_none, ran_then, ran_all}
use Rattle.rds_session.proofs.session.Session.run.Goals as goal

pub loop-rest-init : goal.loop-rest-init
loop-rest-init g c = (ran_none c.args.self.now c.args.send.now.items c.args.piece.now, λ h. h, refl)

pub loop-rest-preserved : goal.loop-rest-preserved
loop-rest-preserved g c = (ran_then _ _ _ _ _ _ _ _ _ c.loop-rest.invariant.0 c.in_ok-rest.ensures.ran, λ h. c.in_ok-rest.ensures.known (c.loop-rest.invariant.1 h), c.take_one.ensures.kept ∙ c.loop-rest.invariant.2)

pub returns-in_err-rest-clause-runs : goal.returns-in_err-rest-clause-runs
returns-in_err-rest-clause-runs g c =
    let p = err_from_is_err_and c.from_residual.result c.from_residual.ensures.1 in
    let r = c.loop-rest.invariant.0 in
    let e = c.in_err-rest.ensures.err in
    rw (p.1, p.2) (e.0, (r.front, c.loop-rest.rest.now, r.split, e.1 ∙ ap (λ (s : Standing). s.received) r.now))

pub returns-in_err-rest-clause-some : goal.returns-in_err-rest-clause-some
returns-in_err-rest-clause-some g c =
    let p = err_from_is_err_and c.from_residual.result c.from_residual.ensures.1 in
    let r = c.loop-rest.invariant.0 in
    let some : 0 < length c.loop-rest.rest.now = search rules in
    rw p.1 (omega (arith, some, ap length r.split, length-append r.front c.loop-rest.rest.now))

pub returns-clause-runs : goal.returns-clause-runs
returns-clause-runs g c =
    let none : length c.loop-rest.rest.now ≡ 0 = search rules in
    ran_all _ _ _ _ _ _ none c.loop-rest.invariant.0
