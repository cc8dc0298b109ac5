use Rattle.std.proofs.Common.{◌≡◌, ◌++◌, length}
use Rattle.rds_life.specs.Life.{live_rows}
use Rattle.rds_state.specs.CoveredDots.{covered_dots}
use Rattle.rds_state.proofs.covering.covered_in.Given as goal

abbrev pub invariant-looking : goal.invariant-looking
invariant-looking g l = l.dots.items ++ covered_dots l.command l.rest ≡ covered_dots l.command (live_rows l.lives)

abbrev pub decreases-looking : goal.decreases-looking
decreases-looking g l = length l.rest
