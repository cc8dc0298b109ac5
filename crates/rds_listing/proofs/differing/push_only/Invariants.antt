use Rattle.std.proofs.Common.{◌≡◌, ◌++◌, drop, map}
use Rattle.std.specs.Prelude.{string_bytes}
use Rattle.rds_listing.specs.Differences.{only_line}
use Rattle.rds_listing.specs.Pieces.{lines_text}
use Rattle.rds_listing.proofs.differing.push_only.Given as goal

abbrev pub invariant-loop-leaf : goal.invariant-loop-leaf
invariant-loop-leaf l =
    string_bytes l.text ++ lines_text (map (only_line l.side) (drop l.leaf-index l.leaves))
    ≡ string_bytes l.initial.text ++ lines_text (map (only_line l.side) l.leaves)
