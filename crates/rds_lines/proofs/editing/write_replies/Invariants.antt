use Rattle.std.proofs.Common.{◌≡◌, take}
use Rattle.rds_lines.proofs.EditedLines.{WritesSome}
use Rattle.rds_lines.proofs.editing.write_replies.Given as goal

abbrev pub invariant-answers : goal.invariant-answers
invariant-answers g l = record {
  some : WritesSome (take l.answer-index l.answers) (g.W.Write.contents l.initial.writer.inner) (g.W.Write.contents l.writer.inner) l.refused;
  wrote : l.writer.failed ≡ l.initial.writer.failed;
}
