use Rattle.std.proofs.Common.{◌≡◌, ◌++◌, take, drop}
use Rattle.rds_listing.specs.Differences.{sums_before, sums_from}
use Rattle.rds_listing.proofs.sums.split_sums.Given as goal

abbrev pub invariant-loop-i : goal.invariant-loop-i
invariant-loop-i l = record {
  before : sums_before l.key l.rest ≡ take l.i l.rest ++ sums_before l.key (drop l.i l.rest);
  from : sums_from l.key l.rest ≡ sums_from l.key (drop l.i l.rest);
}
