use Rattle.std.proofs.Common.{◌≡◌, drop, map}
use Rattle.serde_json.specs.View.{view}
use Rattle.rds_json.specs.RosterLine.{names_of}
use Rattle.rds_json.proofs.Names.{names_with}
use Rattle.rds_json.proofs.roster.names_of.Given as goal

-- the names so far, with those of the members that are left
abbrev pub invariant-loop-member : goal.invariant-loop-member
invariant-loop-member l = names_with l.names.items (map view (drop l.member-index l.members)) ≡ names_of (map view l.members)
