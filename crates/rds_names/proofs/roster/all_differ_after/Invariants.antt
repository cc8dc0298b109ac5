use Rattle.std.proofs.Common.{◌≡◌, length, ◌++◌}
use Rattle.rds_names.specs.Roster.{all_differ}
use Rattle.rds_names.proofs.roster.all_differ_after.Given as goal

abbrev pub invariant-testing : goal.invariant-testing
invariant-testing l = all_differ (l.rest ++ l.names) ≡ all_differ (l.own ++ l.names)

abbrev pub decreases-testing : goal.decreases-testing
decreases-testing l = length l.rest
