use Rattle.std.proofs.Common.{◌≡◌, drop}
use Rattle.rds_json.specs.Standing.{sum_standing}
use Rattle.rds_json.proofs.standing.sum_at.Given as goal

-- the rows that are left decide
abbrev pub invariant-loop-row : goal.invariant-loop-row
invariant-loop-row l = sum_standing l.key (drop l.row-index l.rows) ≡ sum_standing l.key l.sums
