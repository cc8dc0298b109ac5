use Rattle.std.proofs.Common.{arith}
use Rattle.rds_world.proofs.Rosters.{few_names}
use Rattle.rds_world.proofs.replicas.replicas_of.Goals as goal

pub returns-clause-few : goal.returns-clause-few
returns-clause-few c =
    let few = few_names c.args.roster.now.names c.len.ensures.within in
    let is = c.len.ensures.names in
    omega (arith, few, is)
