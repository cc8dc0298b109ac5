use Rattle.std.proofs.Common.{◌≡◌, ◌++◌, take, drop}
use Rattle.rds_listing.specs.Standings.{past, up_to}
use Rattle.rds_listing.proofs.standings.split_past.Given as goal

abbrev pub invariant-loop-i : goal.invariant-loop-i
invariant-loop-i l = record {
  here : up_to l.key l.rows ≡ take l.i l.rows ++ up_to l.key (drop l.i l.rows);
  later : past l.key l.rows ≡ past l.key (drop l.i l.rows);
}
