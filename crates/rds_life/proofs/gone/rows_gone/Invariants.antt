use Rattle.std.proofs.Common.{◌≡◌, ◌++◌, length, true}
use Rattle.std.specs.FinSet as set
use Rattle.rds_dots.specs.Ascending.{ascends}
use Rattle.rds_life.specs.Added.{gone_rows}
use Rattle.rds_life.specs.Life.{keys}
use Rattle.rds_life.proofs.gone.rows_gone.Given as goal

abbrev pub invariant-looking : goal.invariant-looking
invariant-looking g l = let has = set.contains (g.S.DotSet.contents l.seen) in record {
  all : l.gone.items ++ gone_rows has l.live l.rest ≡ gone_rows has l.live l.fn.rows;
  rise : ascends (keys l.rest) ≡ true;
}

abbrev pub decreases-looking : goal.decreases-looking
decreases-looking g l = length l.rest
