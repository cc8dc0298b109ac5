use Rattle.std.proofs.Common.{◌≡◌, ◌++◌, drop}
use Rattle.std.specs.Prelude.{string_bytes}
use Rattle.rds_listing.specs.Evidence.{evidence_text}
use Rattle.rds_listing.proofs.certificates.rows_text.Given as goal

-- the lines so far, with those of the rows that are left
abbrev pub invariant-loop-row : goal.invariant-loop-row
invariant-loop-row g l =
    string_bytes l.text ++ evidence_text l.roster l.delta (drop l.row-index l.rows)
    ≡ evidence_text l.roster l.delta l.rows
