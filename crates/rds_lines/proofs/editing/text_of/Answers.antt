use Rattle.std.proofs.Common.{refl, arith}
use Rattle.rds_lines.proofs.Pieces.{other_is_none, text_is_line}
use Rattle.rds_lines.proofs.editing.text_of.Goals as goal

pub returns-in-Ok-clause-text : goal.returns-in-Ok-clause-text
returns-in-Ok-clause-text c = (text_is_line c.args.line.now c.args.line.now (refl, omega (arith, c.if-line-gt-LINE_LIMIT.false)) c.in-Ok.ensures.cases.1, c.in-Ok.ensures.cases.0)

pub returns-in-Err-clause-fault : goal.returns-in-Err-clause-fault
returns-in-Err-clause-fault c = (refl, other_is_none c.args.line.now c.args.line.now (refl, omega (arith, c.if-line-gt-LINE_LIMIT.false)) c.in-Err.ensures.cases.0)
