use Rattle.rds_packed.proofs.FrontLaws.{ends_key}
use Rattle.rds_packed.proofs.fronts.shared.Goals as goal

pub returns-else-count-key-clause-shared : goal.returns-else-count-key-clause-shared
returns-else-count-key-clause-shared c = ends_key c.args.before.now c.args.key.now c.sharing.count c.if-count-key.false c.sharing.invariant.1
