use Rattle.std.proofs.Common.{◌≡◌, ◌++◌, None, length, map as each}
use Rattle.std.specs.Option.{option_copied}
use Rattle.rds_counts.specs.Value.{value_of}
use Rattle.rds_tree.specs.Distinct.{distinct}
use Rattle.rds_names.specs.Key.{key_cmp}
use Rattle.rds_tree.proofs.counting.sums_of.Given as goal

abbrev pub invariant-adding : goal.invariant-adding
invariant-adding l = l.sums.items ++ each (λ k. (k, value_of l.counts k)) (distinct key_cmp (option_copied l.last) (each (λ r. r.key) l.rest)) ≡ each (λ k. (k, value_of l.counts k)) (distinct key_cmp None (each (λ r. r.key) l.initial.rest))

abbrev pub decreases-adding : goal.decreases-adding
decreases-adding l = length l.rest
