use Rattle.std.proofs.Common.{◌≡◌, ◌≤◌, ◌+◌, ℕ, List, ◌++◌, length}
use Rattle.rds_briefs.specs.Lives.{Lives}
use Rattle.rds_briefs.specs.BriefTexts.{lengths_text}
use Rattle.rds_briefs.proofs.LengthsRead.{AreLengthsRead}
use Rattle.rds_briefs.proofs.reading.read_lengths.Given as goal

abbrev pub invariant-reading : goal.invariant-reading
invariant-reading g l =
    record {
      place : l.seq + l.left ≡ l.first.seq + l.count;
      from : l.first.seq ≤ l.seq;
      text : (f : Lives) (end : List ℕ) → l.bytes ≡ lengths_text f l.first.seq l.count ++ end
          → AreLengthsRead f l.first.replica l.first.seq (g.S.DotSet.contents l.initial.live) (g.S.DotSet.contents l.live) l.rest end l.is_live l.seq l.left;
    }

abbrev pub decreases-reading : goal.decreases-reading
decreases-reading g l = length l.rest
