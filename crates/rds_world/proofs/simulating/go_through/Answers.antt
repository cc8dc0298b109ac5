use Rattle.std.proofs.Common.{map, take, take_all, sym, subst, refl}
use Rattle.rds_names.specs.Roster.{Begins}
use Rattle.rds_world.specs.Simulation.{Reaches}
use Rattle.rds_world.specs.Law.{world_after}
use Rattle.rds_world.specs.World.{Of}
use Rattle.rds_world.proofs.Meeting.{begins_itself, begins_on}
use Rattle.rds_world.proofs.Simulated.{reaches_start, reaches_more, stops_here}
use Rattle.rds_world.proofs.simulating.go_through.Goals as goal

pub happening-init : goal.happening-init
happening-init g c = (reaches_start c.args.roster c.in-Ok.world (take 0 c.args.events.now) refl c.in-Ok.ensures.roster c.in-Ok.ensures.start, subst (Begins c.args.roster) (sym c.in-Ok.ensures.roster) (begins_itself c.args.roster))

pub returns-in-Err-step-clause-stopped : goal.returns-in-Err-step-clause-stopped
returns-in-Err-step-clause-stopped g c =
    let n = c.args.roster.names in
    let i = c.happening.event-index in
    let w = world_after n (map Of (take i c.args.events.now)) in
    stops_here c.args.roster c.args.events.now i c.event-item.result c.happening-test.true (sym c.event-item.is) c.happening.world c.happening.invariant.0 c.step.new.self c.in-Err-step.fault c.in-Err-step.ensures.err
    (c.in-Err-step.ensures.refused w c.happening.invariant.0.stands)

pub returns-in-Err-step-clause-roster : goal.returns-in-Err-step-clause-roster
returns-in-Err-step-clause-roster g c = begins_on c.args.roster c.happening.world.roster c.step.new.self.roster c.happening.invariant.1 c.step.ensures.begins

pub returns-in-Err-clause-roster : goal.returns-in-Err-clause-roster
returns-in-Err-clause-roster g c = subst (Begins c.args.roster) (sym c.in-Err.ensures.roster) (begins_itself c.args.roster)

pub happening-preserved : goal.happening-preserved
happening-preserved g c =
    let n = c.args.roster.names in
    let i = c.happening.event-index in
    let w = world_after n (map Of (take i c.args.events.now)) in (
      reaches_more c.args.roster c.args.events.now i c.event-item.result c.happening-test.true (sym c.event-item.is) c.happening.world c.happening.invariant.0 c.step.new.self
          c.in-Ok-step.ensures.roster (c.in-Ok-step.ensures.accepted w c.happening.invariant.0.stands) (c.in-Ok-step.ensures.after w c.happening.invariant.0.stands),
      begins_on c.args.roster c.happening.world.roster c.step.new.self.roster c.happening.invariant.1 c.step.ensures.begins,
    )

pub returns-clause-reached : goal.returns-clause-reached
returns-clause-reached g c =
    subst (λ es. Reaches c.args.roster es c.happening.world) (take_all c.happening.event-index c.args.events.now c.happening-test.false) c.happening.invariant.0
