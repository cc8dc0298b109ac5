use Rattle.std.proofs.Common.{◌∙◌, sym}
use Rattle.rds_output.proofs.Failing.{failed_by}
use Rattle.rds_lines.proofs.EditedLines.{some_next}
use Rattle.rds_lines.proofs.editing.write_replies.Goals as goal

pub answers-preserved : goal.answers-preserved
answers-preserved g c = record {
  some = some_next c.args.answers.now c.answers.answer-index c.answer-item.result (g.W.Write.contents c.args.writer.now.inner) (g.W.Write.contents c.answers.writer.inner)
      (g.W.Write.contents c.write_to.new.writer.inner) c.answers.refused c.is_refusal-refused.result c.answers-test.true (sym c.answer-item.is) c.is_refusal-refused.ensures c.answers.invariant.some
      c.in-Ok.ensures.bytes;
  wrote = c.in-Ok.ensures.steady ∙ c.answers.invariant.wrote;
}

pub returns-in-Err-clause-written : goal.returns-in-Err-clause-written
returns-in-Err-clause-written g c = λ wrote.
    absurd (wrote (failed_by c.args.writer.now.failed c.answers.writer.failed c.write_to.new.writer.failed c.answers.invariant.wrote c.in-Err.ensures.counted))
