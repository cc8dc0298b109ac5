use Rattle.std.proofs.lemmas.Result.{err_from_is_err_and}
use Rattle.rds_session.specs.Contents.{content_value}
use Rattle.rds_session.specs.Judging.{wait_of}
use Rattle.rds_session.proofs.Verdicts.{judged_as, known_end, read_for, refused_as}
use Rattle.rds_session.proofs.judging.accept.Goals as goal

pub returns-in_err-content-clause-known : goal.returns-in_err-content-clause-known
returns-in_err-content-clause-known g c =
    let p = err_from_is_err_and c.from_residual.result c.from_residual.ensures.1 in
    rw (p.1, p.2) (known_end c.args.message.expected c.args.message.came c.in_err-content.field-0.0 c.end.ensures.bytes c.requires.within (c.in_err-content.ensures.read c.requires.within))

pub returns-in_err-content-clause-judges : goal.returns-in_err-content-clause-judges
returns-in_err-content-clause-judges g c =
    let p = err_from_is_err_and c.from_residual.result c.from_residual.ensures.1 in
    rw (p.1, p.2) (refused_as c.args.kept.now (wait_of c.args.turn.now) c.args.message.came c.args.message.expected c.in_err-content.field-0.0 c.requires.expected (c.in_err-content.ensures.read c.requires.within))

pub returns-clause-judges : goal.returns-clause-judges
returns-clause-judges g c =
    judged_as c.args.kept.now (wait_of c.args.turn.now) c.args.message.came c.args.message.expected c.judge_content.result (content_value c.in_ok-content.content)
    c.requires.expected (c.in_ok-content.ensures.read c.requires.within) c.judge_content.ensures.judges

pub returns-clause-brings : goal.returns-clause-brings
returns-clause-brings g c = λ knows.
    c.judge_content.ensures.brings knows (read_for c.args.kept.now (wait_of c.args.turn.now) c.args.message.came c.args.message.expected (content_value c.in_ok-content.content)
    c.requires.expected c.end.ensures.bytes c.requires.within (c.in_ok-content.ensures.read c.requires.within))
