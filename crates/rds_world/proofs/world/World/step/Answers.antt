use Rattle.rds_world.proofs.Meeting.{begins_then, roster_then}
use Rattle.rds_world.proofs.world.World.step.Goals as goal

pub returns-clause-roster : goal.returns-clause-roster
returns-clause-roster g c = roster_then c.args.self.now c.perform.new.self c.args.event.now c.perform.result c.perform.ensures.ok

pub returns-clause-begins : goal.returns-clause-begins
returns-clause-begins g c = begins_then c.args.self.now c.perform.new.self c.args.event.now c.perform.result c.perform.ensures.ok c.perform.ensures.err
