use Rattle.std.proofs.Common.{◌+◌, ◌≤◌, length}
use Rattle.std.specs.Prelude.{vec_capacity, vec_len}
use Rattle.rds_lines.proofs.EditedLines.{FollowsOn}
use Rattle.rds_lines.proofs.editing.edit_lines.Given as goal
use Rattle.rds_lines.specs.Lines.{lines_in}

-- what the lines that are left make of the replica follows what was made of it so far; each line so far has a byte; there
-- is room for an answer to each line that is left
abbrev pub invariant-lines : goal.invariant-lines
invariant-lines g l = record {
  follows : FollowsOn l.count l.input l.rest (g.E.Edits.replica l.initial.editor) (g.E.Edits.replica l.editor) l.answers.items;
  counted : l.count + length l.rest ≤ length l.input;
  room : vec_len l.answers + length (lines_in l.rest) ≤ vec_capacity l.answers;
  stays : g.E.Edits.stays l.initial.editor l.editor;
}

abbrev pub decreases-lines : goal.decreases-lines
decreases-lines g l = length l.rest
