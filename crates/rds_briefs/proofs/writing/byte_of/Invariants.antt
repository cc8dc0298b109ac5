use Rattle.std.proofs.Common.{◌≡◌, ◌≤◌, ◌+◌, ◌-◌}
use Rattle.rds_briefs.specs.Lives.{lives_in, byte_from}
use Rattle.rds_briefs.proofs.writing.byte_of.Given as goal

abbrev pub invariant-telling : goal.invariant-telling
invariant-telling g l =
    record {
      few : l.left ≤ l.count;
      byte : l.byte ≡ byte_from (lives_in (g.S.DotSet.contents l.live) l.first.replica) (l.first.seq + l.left) (l.count - l.left);
    }

abbrev pub decreases-telling : goal.decreases-telling
decreases-telling g l = l.left
