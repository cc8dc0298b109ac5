use Rattle.std.proofs.Common.{◌≡◌, Option, Some, None, Result, subst}
use Rattle.rds_names.specs.declared.fault.Fault.{Fault}
use Rattle.rds_json.specs.declared.line.Line.{Line}
use Rattle.rds_output.specs.declared.reply.Reply.{Reply}
use Rattle.rds_world.specs.Stored.{WorldValue}
use Rattle.rds_lines.specs.Sim.{Group}
use Rattle.rds_lines.specs.Simulated.{IsGroup, LineLeadsTo}
use Rattle.rds_lines.proofs.sim.Simulation.meet.Goals as goal

-- replicas that are there stand for a group
some_lead : (old : Option WorldValue) (v new : WorldValue) (line : Line) (result : Result Reply Fault) → old ≡ Some v
    → ((now : Group) → LineLeadsTo (Some v) (Some now) line result (Some new)) → (now : Option Group) → LineLeadsTo old now line result (Some new)
some_lead old v new line result is leads None group = absurd (subst (λ (w : Option WorldValue). IsGroup w None) is group)
some_lead old v new line result is leads (Some now) group = leads now (subst (λ (w : Option WorldValue). IsGroup w (Some now)) is group)

pub returns-in-Some : goal.returns-in-Some
returns-in-Some c = some_lead c.args.self.now.world c.in-Some.world c.meet_in.new.world c.args.line c.meet_in.result c.in-Some.is c.meet_in.ensures
