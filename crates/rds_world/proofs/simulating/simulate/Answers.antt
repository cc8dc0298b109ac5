use Rattle.rds_world.proofs.Simulated.{certified, law_holds}
use Rattle.rds_world.proofs.simulating.simulate.Goals as goal

pub returns-clause-certified : goal.returns-clause-certified
returns-clause-certified g c = certified c.args.roster c.args.events.now c.go_through.result c.go_through.ensures.reached c.go_through.ensures.stopped

pub returns-clause-law : goal.returns-clause-law
returns-clause-law g c = law_holds
