use Rattle.std.proofs.Common.{false, length}
use Rattle.rds_life.proofs.Additions.{IsDropping}
use Rattle.rds_life.proofs.adding.drop_all.Given as goal

abbrev pub invariant-dropping : goal.invariant-dropping
invariant-dropping l = IsDropping (λ _. false) l.other l.rest l.fn.rows l.rows

abbrev pub decreases-dropping : goal.decreases-dropping
decreases-dropping l = length l.rest
