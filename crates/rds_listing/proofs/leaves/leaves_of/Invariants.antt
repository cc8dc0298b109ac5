use Rattle.std.proofs.Common.{◌≡◌, ◌++◌, drop}
use Rattle.rds_listing.specs.Differences.{leaves}
use Rattle.rds_listing.proofs.leaves.leaves_of.Given as goal

abbrev pub invariant-loop-standing : goal.invariant-loop-standing
invariant-loop-standing l = l.found.items ++ leaves (drop l.standing-index l.all) ≡ leaves l.all
