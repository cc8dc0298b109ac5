use Rattle.rds_meetings.specs.Reports.{ended_text, settled_text}
use Rattle.rds_meetings.proofs.Reported.{part_after}
use Rattle.rds_meetings.proofs.reports.write_report.Goals as goal

pub returns-clause-part : goal.returns-clause-part
returns-clause-part g c =
    part_after (g.W.Write.contents c.args.writer.now.inner) (g.W.Write.contents c.write_settled.new.writer.inner) (g.W.Write.contents c.write_ended.new.writer.inner) (settled_text c.args.settled.now) (ended_text c.args.ended)
    c.write_ended.result c.in_ok-write_settled.ensures.bytes c.write_ended.ensures.part
