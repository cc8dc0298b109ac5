use Rattle.std.proofs.Common.{◌≡◌, ◌≤◌, ◌+◌, ◌*◌}
use Rattle.rds_briefs.specs.Lives.{lives_in}
use Rattle.rds_briefs.specs.BriefTexts.{lengths_text}
use Rattle.rds_briefs.proofs.Putting.{IsPutting}
use Rattle.rds_briefs.proofs.LengthSteps.{lengths_left, is_none}
use Rattle.rds_briefs.proofs.writing.put_lengths.Given as goal

abbrev pub invariant-telling : goal.invariant-telling
invariant-telling g l =
    let f = lives_in (g.S.DotSet.contents l.live) l.first.replica in
    record {
      put : IsPutting l.initial.text l.text (lengths_left f l.is_live l.seq l.left) (lengths_text f l.first.seq l.count);
      place : l.seq + l.left ≡ l.first.seq + l.count;
      from : 1 ≤ l.seq;
    }

abbrev pub decreases-telling : goal.decreases-telling
decreases-telling g l = 2 * l.left + is_none (lives_in (g.S.DotSet.contents l.live) l.first.replica) l.is_live l.seq
