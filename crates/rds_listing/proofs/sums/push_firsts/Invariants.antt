use Rattle.std.proofs.Common.{◌≡◌, ◌++◌, drop, map}
use Rattle.std.specs.Prelude.{string_bytes}
use Rattle.rds_listing.specs.Differences.{first_line}
use Rattle.rds_listing.specs.Pieces.{lines_text}
use Rattle.rds_listing.proofs.sums.push_firsts.Given as goal

abbrev pub invariant-loop-row : goal.invariant-loop-row
invariant-loop-row l =
    string_bytes l.text ++ lines_text (map first_line (drop l.row-index l.rows))
    ≡ string_bytes l.initial.text ++ lines_text (map first_line l.rows)
