use Rattle.std.proofs.Common.{◌∙◌, rules}
use Rattle.rds_files.specs.Files.{IsUnreadFile}
use Rattle.rds_offline.specs.Letters.{AsksFile}
use Rattle.rds_commands.proofs.Values.{bytes_written}
use Rattle.rds_commands.proofs.offline.run_ask.Goals as goal

pub returns-in-Ok-clause-written : goal.returns-in-Ok-clause-written
returns-in-Ok-clause-written g c = λ wrote.
    bytes_written (AsksFile c.args.path.now) IsUnreadFile c.in-Ok.told.file c.in-Ok.told.bytes.items c.deref.result.now (g.W.Write.contents c.args.writer.now.inner) (g.W.Write.contents c.write_all.new.self.inner) c.status_of.result
    c.in-Ok.ensures.asked (c.deref.ensures.value ∙ c.into_bytes.ensures) (search rules) (search rules)
