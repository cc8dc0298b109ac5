use Rattle.std.proofs.lemmas.Result.{err_from_is_err_and}
use Rattle.rds_keep.proofs.FeedSteps.{read_whole_ends, cut_ends, refused_ends}
use Rattle.rds_keep.proofs.feeds.read_end.Goals as goal

pub returns-in_err-reached-in-More : goal.returns-in_err-reached-in-More
returns-in_err-reached-in-More g c =
    let p = err_from_is_err_and c.from_residual.result c.from_residual.ensures.1 in
    rw (p.1, p.2, c.in-More.is) (refused_ends g.U.Unfinished.finish c.in-More.unfinished c.args.rest.now c.in_err-reached-in-More.field-0.0 c.in_err-reached-in-More.ensures.err)

pub returns-in-Whole-reached : goal.returns-in-Whole-reached
returns-in-Whole-reached g c =
    rw c.in-More.is (read_whole_ends g.U.Unfinished.finish c.in-More.unfinished c.args.rest.now c.in-Whole-reached.whole c.in_ok-reached-in-More.after.now c.read_whole-in-Whole-reached.result
    (rw c.in-Whole-reached.is at c.in_ok-reached-in-More.ensures.ok) c.read_whole-in-Whole-reached.ensures)

pub returns : goal.returns
returns g c =
    let read = rw c.in-More-reached.is at c.in_ok-reached-in-More.ensures.ok in
    rw c.in-More.is (cut_ends g.U.Unfinished.finish c.in-More.unfinished c.in-More-reached.field-0 c.args.rest.now c.in_ok-reached-in-More.after.now read.0 read.1)
