use Rattle.std.proofs.Common.{◌≡◌, ◌++◌, ◌+◌, ◌-◌, ◌%◌}
use Rattle.std.specs.Prelude.{string_bytes}
use Rattle.rds_listing.specs.Dump.{amounts, counts_as_lines, most}
use Rattle.rds_listing.proofs.Amounts.{left_over}
use Rattle.rds_listing.proofs.dumping.push_amounts.Given as goal

abbrev pub invariant-loop-turn : goal.invariant-loop-turn
invariant-loop-turn l =
    string_bytes l.text ++ counts_as_lines l.word l.key (left_over (l.times - l._turn) (l.below % most + 1))
    ≡ string_bytes l.initial.text ++ counts_as_lines l.word l.key (amounts l.below)
