use Rattle.std.proofs.Common.{◌≡◌, ◌+◌, ◌≤◌, length}
use Rattle.rds_lines.proofs.editing.count_lines.Given as goal
use Rattle.rds_lines.specs.Lines.{lines_in}

-- those so far and those that are left are all; each line so far has a byte
abbrev pub invariant-lines : goal.invariant-lines
invariant-lines l = record {
  all : l.lines + length (lines_in l.rest) ≡ length (lines_in l.input);
  counted : l.lines + length l.rest ≤ length l.input;
}

abbrev pub decreases-lines : goal.decreases-lines
decreases-lines l = length l.rest
