use Rattle.std.proofs.Common.{inr}
use Rattle.rds_lines.proofs.Joining.{line_decoded}
use Rattle.rds_lines.proofs.join.read_line.Goals as goal

pub returns-in-Ok : goal.returns-in-Ok
returns-in-Ok g c =
    inr (line_decoded c.args.line.now c.deref.result.now c.in-Ok.bytes.items c.decode_snapshot.result c.if-line-gt-LINE_LIMIT.false c.in-Ok.ensures.ok c.deref.ensures.value c.decode_snapshot.ensures)
