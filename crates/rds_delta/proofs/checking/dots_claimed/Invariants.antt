use Rattle.std.proofs.Common.{length}
use Rattle.rds_delta.specs.Digested.{rank_in}
use Rattle.rds_delta.specs.Claimed.{IsClaimedTo}
use Rattle.rds_delta.specs.Rest.{after_of}
use Rattle.rds_delta.proofs.checking.dots_claimed.Given as goal

abbrev pub invariant-claiming : goal.invariant-claiming
invariant-claiming g l = IsClaimedTo (rank_in l.digest) l.lives l.fn.rows l.after l.rest

abbrev pub decreases-claiming : goal.decreases-claiming
decreases-claiming g l = length (after_of l.after l.lives)
