use Rattle.rds_world.specs.Stands.{AreNew}
use Rattle.rds_world.proofs.replicas.empty_replicas.Given as goal

-- a replica for each number so far
abbrev pub invariant-making : goal.invariant-making
invariant-making g l = AreNew l.roster l.memory.items l.number × AreNew l.roster l.kept.items l.number
