use Rattle.rds_packed.proofs.SeenWithin.{head_within}
use Rattle.rds_packed.proofs.seen.RowsSoFarPart.make.Goals as goal

pub invariant_of-begun : goal.invariant_of-begun
invariant_of-begun g c = head_within c.args.self.replicas c.args.self.least c.requires.0 c.args.part c.requires.1 c.requires.2
