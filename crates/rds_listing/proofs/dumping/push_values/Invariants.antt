use Rattle.std.proofs.Common.{◌≡◌, ◌++◌, drop, map}
use Rattle.std.specs.Prelude.{string_bytes}
use Rattle.rds_listing.specs.Dump.{edits_text, value_edit}
use Rattle.rds_listing.proofs.dumping.push_values.Given as goal

abbrev pub invariant-loop-value : goal.invariant-loop-value
invariant-loop-value l =
    string_bytes l.text ++ edits_text (map (value_edit l.path l.kind) (drop l.value-index l.values))
    ≡ string_bytes l.initial.text ++ edits_text (map (value_edit l.path l.kind) l.values)
