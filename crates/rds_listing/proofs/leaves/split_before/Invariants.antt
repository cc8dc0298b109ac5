use Rattle.std.proofs.Common.{◌≡◌, ◌++◌, take, drop}
use Rattle.rds_listing.specs.Differences.{before, from}
use Rattle.rds_listing.proofs.leaves.split_before.Given as goal

abbrev pub invariant-loop-i : goal.invariant-loop-i
invariant-loop-i l = record {
  before : before l.leaf l.rest ≡ take l.i l.rest ++ before l.leaf (drop l.i l.rest);
  from : from l.leaf l.rest ≡ from l.leaf (drop l.i l.rest);
}
