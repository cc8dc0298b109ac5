use Rattle.std.proofs.Common.{◌≡◌, ◌++◌, drop}
use Rattle.rds_listing.proofs.leaves.keys_copy.Given as goal

abbrev pub invariant-loop-key : goal.invariant-loop-key
invariant-loop-key l = l.copies.items ++ drop l.key-index l.keys ≡ l.keys
