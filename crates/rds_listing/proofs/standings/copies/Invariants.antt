use Rattle.std.proofs.Common.{◌≡◌, ◌++◌, drop}
use Rattle.rds_listing.proofs.standings.copies.Given as goal

abbrev pub invariant-loop-value : goal.invariant-loop-value
invariant-loop-value l = l.copies.items ++ drop l.value-index l.values ≡ l.values
