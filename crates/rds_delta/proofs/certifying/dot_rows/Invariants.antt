use Rattle.std.proofs.Common.{◌≡◌, ◌++◌, List, length, true, None}
use Rattle.rds_delta.specs.declared.row.Row.{Row}
use Rattle.rds_delta.specs.Digested.{rank_in}
use Rattle.rds_delta.specs.Rest.{after_of, claims_after, is_flat}
use Rattle.rds_delta.proofs.certifying.dot_rows.Given as goal

-- the rows so far, and those that are left
abbrev pub invariant-telling : goal.invariant-telling
invariant-telling g l = (more : List Row) → is_flat more ≡ true → l.rows.items ++ claims_after (rank_in l.digest) l.lives l.after more ≡ claims_after (rank_in l.digest) l.lives None more

abbrev pub decreases-telling : goal.decreases-telling
decreases-telling g l = length (after_of l.after l.lives)
