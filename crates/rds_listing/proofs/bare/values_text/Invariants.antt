use Rattle.std.proofs.Common.{◌≡◌, ◌++◌, drop}
use Rattle.std.specs.Prelude.{string_bytes}
use Rattle.rds_listing.specs.Pieces.{lines_text}
use Rattle.rds_listing.specs.Raw.{values_lines}
use Rattle.rds_listing.proofs.bare.values_text.Given as goal

-- the lines so far, with those of the values that are left
abbrev pub invariant-loop-value : goal.invariant-loop-value
invariant-loop-value l =
    string_bytes l.text ++ lines_text (values_lines (drop l.value-index l.values)) ≡ lines_text (values_lines l.values)
