use Rattle.std.proofs.Common.{sym, ap, ◌∙◌}
use Rattle.std.proofs.lemmas.Result.{err_from_is_err_and}
use Rattle.rds_codec.proofs.Whole.{fed_refused, fed_cut, fed_whole, ended_by}
use Rattle.rds_codec.proofs.fed.read_all.Goals as goal

pub returns-in_err-progress : goal.returns-in_err-progress
returns-in_err-progress g c =
    let p = err_from_is_err_and c.from_residual.result c.from_residual.ensures.1 in
    rw (p.1, p.2) (fed_refused g.U.Unfinished.finish c.args.unfinished c.args.bytes.now c.in_err-progress.field-0.0 c.in_err-progress.ensures.err)

pub returns-in-More : goal.returns-in-More
returns-in-More g c = fed_cut g.U.Unfinished.finish c.args.unfinished c.args.bytes.now c.in_ok-progress.progress c.in-More.field-0 c.in_ok-progress.rest.now c.in-More.is c.in_ok-progress.ensures.ok

pub returns-then-not-is_empty : goal.returns-then-not-is_empty
returns-then-not-is_empty g c =
    fed_whole g.U.Unfinished.finish c.args.unfinished c.args.bytes.now c.in_ok-progress.progress c.in-Whole.whole c.in_ok-progress.rest.now c.in-Whole.is c.in_ok-progress.ensures.ok
    ∙ ap (ended_by c.in-Whole.whole) (sym c.is_empty.ensures ∙ c.if-not-is_empty.true)

pub returns : goal.returns
returns g c =
    fed_whole g.U.Unfinished.finish c.args.unfinished c.args.bytes.now c.in_ok-progress.progress c.in-Whole.whole c.in_ok-progress.rest.now c.in-Whole.is c.in_ok-progress.ensures.ok
    ∙ ap (ended_by c.in-Whole.whole) (sym c.is_empty.ensures ∙ c.if-not-is_empty.false)
