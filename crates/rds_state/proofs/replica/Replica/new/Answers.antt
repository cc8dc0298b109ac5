use Rattle.std.proofs.Common.{length, rules}
use Rattle.rds_state.proofs.FitsLemmas.{empty_fits}
use Rattle.rds_state.proofs.replica.Replica.new.Goals as goal

pub invariant_of-result : goal.invariant_of-result
invariant_of-result g c = record { own = search rules; fits = empty_fits (length c.args.roster.names) c.empty.result c.empty.ensures.lives c.empty.ensures.counts }
