use Rattle.std.proofs.Common.{◌≡◌, ◌≤◌, ◌+◌}
use Rattle.rds_briefs.specs.Lives.{Lives, byte_from}
use Rattle.rds_briefs.proofs.BitsRead.{IsByteRead}
use Rattle.rds_briefs.proofs.reading.put_byte.Given as goal

abbrev pub invariant-reading : goal.invariant-reading
invariant-reading g l =
    record {
      place : l.seq + l.left ≡ l.first.seq + l.count;
      from : l.first.seq ≤ l.seq;
      text : (f : Lives) → l.byte ≡ byte_from f l.first.seq l.count → IsByteRead f l.first.replica l.first.seq (g.S.DotSet.contents l.initial.live) (g.S.DotSet.contents l.live) l.bits l.seq l.left;
    }

abbrev pub decreases-reading : goal.decreases-reading
decreases-reading g l = l.left
