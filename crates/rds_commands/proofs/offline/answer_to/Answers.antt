use Rattle.std.proofs.Common.{◌∙◌, rules}
use Rattle.rds_offline.specs.Letters.{AnswersFile, RefusesAnswer}
use Rattle.rds_commands.proofs.Values.{bytes_written}
use Rattle.rds_commands.proofs.offline.answer_to.Goals as goal

pub returns-in-Ok-clause-written : goal.returns-in-Ok-clause-written
returns-in-Ok-clause-written g c = λ wrote.
    bytes_written (AnswersFile c.args.path.now c.args.question.now) (RefusesAnswer c.args.question.now) c.in-Ok.told.file c.in-Ok.told.bytes.items c.deref.result.now (g.W.Write.contents c.args.writer.now.inner) (g.W.Write.contents c.write_all.new.self.inner) c.status_of.result
    c.in-Ok.ensures.answered (c.deref.ensures.value ∙ c.into_bytes.ensures) (search rules) (search rules)
