use Rattle.std.proofs.Common.{take}
use Rattle.rds_names.specs.Roster.{Begins}
use Rattle.rds_world.specs.Simulation.{Reaches}
use Rattle.rds_world.proofs.simulating.go_through.Given as goal

-- the events so far happened, and led here; the roster begins with that of the beginning
abbrev pub invariant-happening : goal.invariant-happening
invariant-happening g l = Reaches l.fn.roster (take l.event-index l.events) l.world × Begins l.fn.roster l.world.roster
