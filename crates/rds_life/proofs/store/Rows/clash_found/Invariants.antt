use Rattle.std.proofs.Common.{length}
use Rattle.rds_life.proofs.Lookups.{IsLookedUp}
use Rattle.rds_life.proofs.store.Rows.clash_found.Given as goal

abbrev pub invariant-looking : goal.invariant-looking
invariant-looking l = IsLookedUp l.self l.fn.other l.rest

abbrev pub decreases-looking : goal.decreases-looking
decreases-looking l = length l.rest
