use Rattle.std.proofs.Common.{◌≡◌, ◌++◌, drop, map}
use Rattle.rds_listing.specs.Differences.{leaf_at}
use Rattle.rds_listing.proofs.leaves.add_leaves.Given as goal

abbrev pub invariant-loop-value : goal.invariant-loop-value
invariant-loop-value l =
    l.found.items ++ map (leaf_at l.path l.kind) (drop l.value-index l.values)
    ≡ l.initial.found.items ++ map (leaf_at l.path l.kind) l.values
