use Rattle.std.proofs.Common.{◌≡◌, ◌++◌, drop}
use Rattle.std.specs.List.{flat_map}
use Rattle.std.specs.Prelude.{string_bytes}
use Rattle.rds_listing.specs.Dump.{edits_text, sum_edits}
use Rattle.rds_listing.proofs.dumping.push_sums.Given as goal

abbrev pub invariant-loop-row : goal.invariant-loop-row
invariant-loop-row l =
    string_bytes l.text ++ edits_text (flat_map (λ row. sum_edits row.0 row.1) (drop l.row-index l.rows))
    ≡ string_bytes l.initial.text ++ edits_text (flat_map (λ row. sum_edits row.0 row.1) l.rows)
