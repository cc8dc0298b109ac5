use Rattle.rds_names.specs.declared.fault.Fault.TheVariants.{Usage}
use Rattle.rds_output.specs.Output.{fault_line}
use Rattle.rds_keep.proofs.Showing.{grown_more}
use Rattle.rds_commands.proofs.unparsed.write_usage.Goals as goal

pub returns-clause-kept : goal.returns-clause-kept
returns-clause-kept g c =
    grown_more (g.W.Write.contents c.args.writer.now.inner) (g.W.Write.contents c.write_fault_line.new.writer.inner) (g.W.Write.contents c.write_text.new.writer.inner)
    (fault_line Usage, c.in_ok-write_fault_line.ensures.bytes) c.write_text.ensures.bytes
