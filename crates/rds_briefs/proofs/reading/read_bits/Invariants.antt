use Rattle.std.proofs.Common.{◌≡◌, ◌≤◌, ◌+◌, List, ℕ, ◌++◌}
use Rattle.rds_briefs.specs.Lives.{Lives}
use Rattle.rds_briefs.specs.BriefTexts.{bits_text}
use Rattle.rds_briefs.proofs.BitsRead.{AreBitsRead}
use Rattle.rds_briefs.proofs.reading.read_bits.Given as goal

abbrev pub invariant-reading : goal.invariant-reading
invariant-reading g l =
    record {
      place : l.seq + l.left ≡ l.first.seq + l.count;
      from : l.first.seq ≤ l.seq;
      text : (f : Lives) (end : List ℕ) → l.bytes ≡ bits_text f l.first.seq l.count ++ end
          → AreBitsRead f l.first.replica l.first.seq (g.S.DotSet.contents l.initial.live) (g.S.DotSet.contents l.live) l.rest end l.seq l.left;
    }

abbrev pub decreases-reading : goal.decreases-reading
decreases-reading g l = l.left
