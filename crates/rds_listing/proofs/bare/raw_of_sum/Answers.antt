use Rattle.std.proofs.Common.{Some, refl, rules}
use Rattle.rds_listing.specs.Raw.{sum_lines}
use Rattle.rds_listing.proofs.bare.raw_of_sum.Goals as goal

pub returns-in_ok-sum_text-in-Some-clause-raw : goal.returns-in_ok-sum_text-in-Some-clause-raw
returns-in_ok-sum_text-in-Some-clause-raw c =
    rw c.in-Some.is (sum_lines (Some c.in-Some.sum), refl, search rules)
