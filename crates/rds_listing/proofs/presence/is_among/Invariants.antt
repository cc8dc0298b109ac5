use Rattle.std.proofs.Common.{drop}
use Rattle.std.specs.List.{Contains}
use Rattle.rds_listing.proofs.presence.is_among.Given as goal

-- a value that is there is among those that are left
abbrev pub invariant-loop-each : goal.invariant-loop-each
invariant-loop-each l = Contains l.values l.value → Contains (drop l.each-index l.values) l.value
