use Rattle.rds_store.proofs.ChangeLemmas.{none_there}
use Rattle.rds_store.proofs.changes.first_of.Goals as goal

pub returns-in-None : goal.returns-in-None
returns-in-None c = none_there c.args.deltas.now c.empty.result c.in-None.ensures.value c.empty.ensures.lives c.empty.ensures.counts
