use Rattle.rds_output.specs.Reply.{reply_line}
use Rattle.rds_output.proofs.Beginnings.{front_written}
use Rattle.rds_output.proofs.output.write_reply.Goals as goal

pub returns-in-Ok-clause-part : goal.returns-in-Ok-clause-part
returns-in-Ok-clause-part g c =
    rw c.in-Ok.is (front_written (g.W.Write.contents c.args.writer.now.inner) (g.W.Write.contents c.write_to.new.writer.inner) (reply_line c.in-Ok.reply) c.write_to.result c.write_to.ensures.bytes c.write_to.ensures.part)
