use Rattle.std.proofs.Common.{ap, arith, length}
use Rattle.rds_http.proofs.ReplyLines.{number_len}
use Rattle.rds_http.proofs.lines.put_number.Goals as goal

pub put-requires : goal.put-requires
put-requires c =
    let few = number_len c.args.number (omega arith) in
    omega (arith, few, ap length c.of.ensures.text)

pub returns-clause-spare : goal.returns-clause-spare
returns-clause-spare c =
    let few = number_len c.args.number (omega arith) in
    omega (arith, few, ap length c.of.ensures.text)
