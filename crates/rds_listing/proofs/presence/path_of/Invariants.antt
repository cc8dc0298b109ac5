use Rattle.std.proofs.Common.{◌≡◌, ◌++◌, drop}
use Rattle.rds_listing.proofs.presence.path_of.Given as goal

-- the copies so far, with the keys that are left
abbrev pub invariant-loop-key : goal.invariant-loop-key
invariant-loop-key l = l.copies.items ++ drop l.key-index l.keys ≡ l.keys
