use Rattle.std.proofs.Common.{take}
use Rattle.rds_bytes.specs.Places.{AreFound}
use Rattle.rds_bytes.proofs.places.KeyPlaces.with_keys.Given as goal

-- the keys so far are found
abbrev pub invariant-loop-number : goal.invariant-loop-number
invariant-loop-number l = AreFound l.places (take l.number l.keys)
