use Rattle.std.proofs.Common.{◌<◌, length, Some, None, rules}
use Rattle.std.proofs.lemmas.Result.{err_from_is_err_and}
use Rattle.rds_session.proofs.Spoken.{on_failed, part_spoken, spoken, spoken_before}
use Rattle.rds_session.proofs.Turns.{came_end, came_piece, on_ok}
use Rattle.rds_session.proofs.exchanging.turn.Goals as goal

pub returns-in_err-count-clause-part : goal.returns-in_err-count-clause-part
returns-in_err-count-clause-part g c =
    let p = err_from_is_err_and c.from_residual.result c.from_residual.ensures.1 in
    rw p.1 (λ side kept first before. spoken_before _ side kept first _ _ before _ c.args.session.now c.requires.going c.in_err-count.ensures.bytes)

pub returns-then-count-eq0-clause-speaks : goal.returns-then-count-eq0-clause-speaks
returns-then-count-eq0-clause-speaks g c =
    let room : 0 < length c.read.new.buf = search rules in
    let came = came_end _ _ c.in_ok-count.count c.read.new.buf c.in_ok-count.ensures.bytes c.if-count-eq0.true room in
    on_ok c.say.result _ _ c.say.ensures.sent (λ sent side kept first before. spoken side kept first _ _ before _ _ None c.args.session.now c.say.new.session c.requires.going came sent)

pub returns-then-count-eq0-clause-part : goal.returns-then-count-eq0-clause-part
returns-then-count-eq0-clause-part g c =
    let room : 0 < length c.read.new.buf = search rules in
    let came = came_end _ _ c.in_ok-count.count c.read.new.buf c.in_ok-count.ensures.bytes c.if-count-eq0.true room in
    on_failed c.say.result _ _ _ c.say.ensures.part c.say.ensures.fault (λ sent failed side kept first before. part_spoken _ side kept first _ _ before _ _ None c.args.session.now c.say.new.session c.requires.going came sent failed)

pub returns-clause-speaks : goal.returns-clause-speaks
returns-clause-speaks g c =
    let came = came_piece _ _ c.in_ok-count.count c.read.new.buf c.split_at.result.0.now c.in_ok-count.ensures.bytes c.split_at.ensures.front in
    on_ok c.say-2.result _ _ c.say-2.ensures.sent (λ sent side kept first before. spoken side kept first _ _ before _ _ (Some c.split_at.result.0.now) c.args.session.now c.say-2.new.session c.requires.going came sent)

pub returns-clause-part : goal.returns-clause-part
returns-clause-part g c =
    let came = came_piece _ _ c.in_ok-count.count c.read.new.buf c.split_at.result.0.now c.in_ok-count.ensures.bytes c.split_at.ensures.front in
    on_failed c.say-2.result _ _ _ c.say-2.ensures.part c.say-2.ensures.fault (λ sent failed side kept first before. part_spoken _ side kept first _ _ before _ _ (Some c.split_at.result.0.now) c.args.session.now c.say-2.new.session c.requires.going came sent failed)
