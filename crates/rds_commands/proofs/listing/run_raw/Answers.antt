use Rattle.std.proofs.Common.{rules}
use Rattle.rds_commands.proofs.Values.{values_written}
use Rattle.rds_commands.proofs.listing.run_raw.Goals as goal

pub returns-in-Nothing-clause-written : goal.returns-in-Nothing-clause-written
returns-in-Nothing-clause-written g c = λ wrote.
    values_written c.args.path.now c.args.text.now c.args.wanted c.in-Ok.done.file c.in-Ok.done.told c.into_told.result (g.W.Write.contents c.args.writer.now.inner) (g.W.Write.contents c.args.writer.now.inner) _
    c.in-Ok.ensures.told c.into_told.ensures (rw c.in-Nothing.is (search rules))

pub returns-in-Text-clause-written : goal.returns-in-Text-clause-written
returns-in-Text-clause-written g c = λ wrote.
    values_written c.args.path.now c.args.text.now c.args.wanted c.in-Ok.done.file c.in-Ok.done.told c.into_told.result (g.W.Write.contents c.args.writer.now.inner) (g.W.Write.contents c.write_all.new.self.inner) c.status_of.result
    c.in-Ok.ensures.told c.into_told.ensures (rw c.in-Text.is (search rules))

pub returns-in-Several-clause-written : goal.returns-in-Several-clause-written
returns-in-Several-clause-written g c = λ wrote.
    values_written c.args.path.now c.args.text.now c.args.wanted c.in-Ok.done.file c.in-Ok.done.told c.into_told.result (g.W.Write.contents c.args.writer.now.inner) (g.W.Write.contents c.args.writer.now.inner) c.status_for.result
    c.in-Ok.ensures.told c.into_told.ensures (rw c.in-Several.is (search rules))
