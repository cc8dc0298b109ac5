use Rattle.std.proofs.Common.{◌≡◌, ◌++◌, drop}
use Rattle.std.specs.Prelude.{string_bytes}
use Rattle.rds_names.specs.declared.entry.Kind.TheVariants.{Reg}
use Rattle.rds_listing.specs.Conflicts.{conflict_lines}
use Rattle.rds_listing.specs.Pieces.{lines_text}
use Rattle.rds_listing.specs.Standings.{all_stand}
use Rattle.rds_listing.proofs.conflicting.push_registers.Given as goal

abbrev pub invariant-loop-row : goal.invariant-loop-row
invariant-loop-row l =
    string_bytes l.text ++ lines_text (conflict_lines (all_stand l.above Reg (drop l.row-index l.regs)))
    ≡ string_bytes l.initial.text ++ lines_text (conflict_lines (all_stand l.above Reg l.regs))
