use Rattle.std.proofs.Common.{◌≡◌, true, ◌+◌, ◌*◌, ◌≤◌, length, take}
use Rattle.std.specs.List.{flat_map, list_all}
use Rattle.rds_names.specs.Name.{is_name}
use Rattle.rds_bytes.specs.Spelling.{short_text}
use Rattle.rds_bytes.proofs.roster.names_length.Given as goal

abbrev pub invariant-loop-number : goal.invariant-loop-number
invariant-loop-number l = (l.total ≡ 2 + length (flat_map short_text (take l.number l.roster.names))) × ((l.total ≤ 2 + 17 * l.number) × (list_all is_name (take l.number l.roster.names) ≡ true))
