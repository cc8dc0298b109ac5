use Rattle.std.proofs.Common.{◌≡◌, ◌++◌, drop}
use Rattle.std.specs.Prelude.{string_bytes}
use Rattle.rds_listing.specs.Differences.{counter_lines}
use Rattle.rds_listing.specs.Pieces.{lines_text}
use Rattle.rds_listing.proofs.sums.push_sums_differing.Given as goal

abbrev pub invariant-loop-row : goal.invariant-loop-row
invariant-loop-row l =
    string_bytes l.text ++ lines_text (counter_lines l.rest (drop l.row-index l.seconds))
    ≡ string_bytes l.initial.text ++ lines_text (counter_lines l.firsts l.seconds)
