use Rattle.std.proofs.Common.{◌≡◌, ◌+◌, length}
use Rattle.rds_counts.specs.declared.row.Which.TheVariants.{P, N}
use Rattle.rds_counts.specs.Value.{first_total}
use Rattle.rds_counts.proofs.rows.first_totals.Given as goal

abbrev pub invariant-adding : goal.invariant-adding
invariant-adding l = record {
  p : l.p + first_total P l.key l.rest ≡ first_total P l.key l.fn.rows;
  n : l.n + first_total N l.key l.rest ≡ first_total N l.key l.fn.rows;
}

abbrev pub decreases-adding : goal.decreases-adding
decreases-adding l = length l.rest
