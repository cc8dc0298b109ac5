use Rattle.std.proofs.Common.{◌≡◌, ◌++◌, take, drop}
use Rattle.rds_lines.specs.Lines.{until_newline, after_line}
use Rattle.rds_lines.proofs.lines.split_line.Given as goal

abbrev pub invariant-loop-i : goal.invariant-loop-i
invariant-loop-i l = record {
  line : until_newline l.bytes ≡ take l.i l.bytes ++ until_newline (drop l.i l.bytes);
  rest : after_line l.bytes ≡ after_line (drop l.i l.bytes);
}
