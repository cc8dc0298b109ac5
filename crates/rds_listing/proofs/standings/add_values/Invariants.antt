use Rattle.std.proofs.Common.{◌≡◌, ◌++◌, drop}
use Rattle.rds_listing.specs.Standings.{values_stand}
use Rattle.rds_listing.proofs.standings.add_values.Given as goal

abbrev pub invariant-loop-row : goal.invariant-loop-row
invariant-loop-row l =
    l.all.items ++ values_stand l.above l.rest (drop l.row-index l.sets)
    ≡ l.initial.all.items ++ values_stand l.above l.regs l.sets
