use Rattle.rds_life.proofs.NothingSeen.{gives_memory}
use Rattle.rds_life.proofs.lives.Lives.merge.Goals as goal

pub returns-clause-gives : goal.returns-clause-gives
returns-clause-gives g c = gives_memory c.args.self.now c.args.other.now c.merge_compatible.result c.in_ok-check_join.ensures.gives c.merge_compatible.ensures.memory
