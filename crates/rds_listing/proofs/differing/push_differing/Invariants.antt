use Rattle.std.proofs.Common.{◌≡◌, ◌++◌, drop}
use Rattle.std.specs.Prelude.{string_bytes}
use Rattle.rds_listing.specs.Differences.{leaf_lines}
use Rattle.rds_listing.specs.Pieces.{lines_text}
use Rattle.rds_listing.proofs.differing.push_differing.Given as goal

abbrev pub invariant-loop-leaf : goal.invariant-loop-leaf
invariant-loop-leaf l =
    string_bytes l.text ++ lines_text (leaf_lines l.rest (drop l.leaf-index l.seconds))
    ≡ string_bytes l.initial.text ++ lines_text (leaf_lines l.firsts l.seconds)
