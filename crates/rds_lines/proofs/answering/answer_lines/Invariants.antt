use Rattle.std.proofs.Common.{◌≡◌, ◌-◌, ◌≤◌}
use Rattle.rds_keep.specs.Parts.{ConsumesAtMost}
use Rattle.rds_lines.specs.Ahead.{left_of, most_given, bytes_untaken}
use Rattle.rds_lines.proofs.LineByLine.{Standing}
use Rattle.rds_lines.proofs.answering.answer_lines.Given as goal

abbrev pub invariant-lines : goal.invariant-lines
invariant-lines g l = record {
  standing : Standing g.A.Answers.may_answer (g.R.Read.remaining l.fn.reader.inner) (bytes_untaken l.ahead (g.R.Read.remaining l.reader.inner)) (g.W.Write.contents l.fn.writer.inner) (g.W.Write.contents l.writer.inner) l.fn.answers l.answers l.refused;
  bound : ConsumesAtMost (g.R.Read.remaining l.fn.reader.inner) (g.R.Read.remaining l.reader.inner) (most_given (l.fn.reader.budget - l.reader.left));
  fewer : l.reader.left ≤ l.fn.reader.budget;
  read : l.reader.failed ≡ l.fn.reader.failed;
  wrote : l.writer.failed ≡ l.fn.writer.failed;
}

abbrev pub decreases-lines : goal.decreases-lines
decreases-lines g l = left_of l.ahead l.reader.left
