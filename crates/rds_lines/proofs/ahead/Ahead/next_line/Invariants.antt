use Rattle.std.proofs.Common.{◌≡◌, ◌-◌, ◌<◌, ◌≤◌, ℕ, List, true}
use Rattle.rds_keep.specs.Parts.{ConsumesAtMost}
use Rattle.rds_lines.specs.Ahead.{IsLineHeld, left_of, most_given, bytes_untaken}
use Rattle.rds_lines.specs.Lines.{IsOneLine}
use Rattle.rds_lines.proofs.Pieces.{Walks}
use Rattle.rds_lines.proofs.ahead.Ahead.next_line.Given as goal

abbrev pub invariant-pieces : goal.invariant-pieces
invariant-pieces g l = record {
  walks : Walks (bytes_untaken l.initial.self (g.R.Read.remaining l.initial.reader.inner)) (bytes_untaken l.self (g.R.Read.remaining l.reader.inner)) l.line l.begun;
  held : (taken : List ℕ) × IsOneLine taken × IsLineHeld taken l.line;
  bound : ConsumesAtMost (g.R.Read.remaining l.initial.reader.inner) (g.R.Read.remaining l.reader.inner) (most_given (l.initial.reader.left - l.reader.left));
  fewer : l.reader.left ≤ l.initial.reader.left;
  steady : l.reader.failed ≡ l.initial.reader.failed;
  within : left_of l.self l.reader.left ≤ left_of l.initial.self l.initial.reader.left;
  less : l.begun ≡ true → left_of l.self l.reader.left < left_of l.initial.self l.initial.reader.left;
}

abbrev pub decreases-pieces : goal.decreases-pieces
decreases-pieces g l = left_of l.self l.reader.left
