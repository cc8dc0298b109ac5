use Rattle.std.proofs.Common.{◌≡◌, ◌+◌, length}
use Rattle.rds_journal.specs.Records.{claimed_in_all}
use Rattle.rds_journal.proofs.torn.claimed_in_all.Given as goal

-- what is added up and what is left make all
abbrev pub invariant-adding : goal.invariant-adding
invariant-adding l = l.sum + claimed_in_all l.rest ≡ claimed_in_all l.fn.bytes

abbrev pub decreases-adding : goal.decreases-adding
decreases-adding l = length l.rest
