use Rattle.std.proofs.lemmas.Result.{err_from_is_err_and}
use Rattle.rds_lines.proofs.Joining.{emptied, join_refused, join_encoded}
use Rattle.rds_lines.proofs.join.join_read.Goals as goal

pub returns : goal.returns
returns g c =
    let none = emptied c.args.rest.now c.is_empty.result c.is_empty.ensures c.if-not-is_empty.false in
    join_encoded c.args.rest.now c.args.first c.args.second c.in_ok-both.both c.encode_snapshot.result none c.in_ok-both.ensures.ok c.encode_snapshot.ensures.text

pub returns-in_err-both : goal.returns-in_err-both
returns-in_err-both g c =
    let p = err_from_is_err_and c.from_residual.result c.from_residual.ensures.1 in
    let none = emptied c.args.rest.now c.is_empty.result c.is_empty.ensures c.if-not-is_empty.false in
    rw (p.1, p.2) (join_refused c.args.rest.now c.args.first c.args.second c.in_err-both.field-0.0 none c.in_err-both.ensures.err)
