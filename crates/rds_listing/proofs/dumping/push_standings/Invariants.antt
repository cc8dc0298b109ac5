use Rattle.std.proofs.Common.{◌≡◌, ◌++◌, drop}
use Rattle.std.specs.List.{flat_map}
use Rattle.std.specs.Prelude.{string_bytes}
use Rattle.rds_listing.specs.Dump.{edits_text, standing_edits}
use Rattle.rds_listing.proofs.dumping.push_standings.Given as goal

abbrev pub invariant-loop-standing : goal.invariant-loop-standing
invariant-loop-standing l =
    string_bytes l.text ++ edits_text (flat_map standing_edits (drop l.standing-index l.all))
    ≡ string_bytes l.initial.text ++ edits_text (flat_map standing_edits l.all)
