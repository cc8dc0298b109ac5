use Rattle.std.proofs.Common.{arith}
use Rattle.rds_commands.proofs.Batches.{answers_written}
use Rattle.rds_commands.proofs.batch.edit_by.Goals as goal

pub returns-in-Ok-clause-written : goal.returns-in-Ok-clause-written
returns-in-Ok-clause-written g c = λ wrote.
    answers_written c.args.path.now c.args.input.now (g.W.Write.contents c.args.writer.now.inner) (g.W.Write.contents c.write_replies-status.new.writer.inner) c.write_replies-status.result c.in-Ok.done.file c.in-Ok.done.answers.items c.as_slice-answers.result.now
    (omega (arith, c.if-input-gt-MOST.false)) c.in-Ok.ensures.edited c.as_slice-answers.ensures.value (c.write_replies-status.ensures.written wrote)
