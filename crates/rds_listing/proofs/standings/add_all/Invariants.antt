use Rattle.std.proofs.Common.{◌≡◌, ◌++◌, drop}
use Rattle.rds_listing.specs.Standings.{all_stand}
use Rattle.rds_listing.proofs.standings.add_all.Given as goal

abbrev pub invariant-loop-row : goal.invariant-loop-row
invariant-loop-row l =
    l.all.items ++ all_stand l.above l.kind (drop l.row-index l.rows)
    ≡ l.initial.all.items ++ all_stand l.above l.kind l.rows
