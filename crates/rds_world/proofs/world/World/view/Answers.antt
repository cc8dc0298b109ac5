use Rattle.rds_world.proofs.world.World.view.Goals as goal

pub returns-clause-shown : goal.returns-clause-shown
returns-clause-shown g c = record { replica = c.in_ok-index.index.now; there = c.in_ok-index.ensures.there; shown = c.in_ok-view.ensures.shown }
