use Rattle.std.proofs.Common.{None, Ok, Some, subst, sym}
use Rattle.std.specs.Prelude.{IfOk}
use Rattle.rds_json.specs.declared.line.Line.{Line}
use Rattle.rds_lines.specs.Simulated.{LineLeadsTo}
use Rattle.rds_output.specs.declared.reply.Reply.TheVariants.{Done}
use Rattle.rds_lines.proofs.Simulating.{worlds_open}
use Rattle.rds_lines.proofs.sim.open.Goals as goal

pub returns-in-Roster-clause-ok : goal.returns-in-Roster-clause-ok
returns-in-Roster-clause-ok g c =
    subst (λ (line : Line). IfOk c.new.result (λ world. LineLeadsTo None None line (Ok Done) (Some world))) (sym c.in-Roster.is) (worlds_open c.in-Roster.roster c.new.result c.new.ensures.start c.new.ensures.roster)
