use Rattle.std.proofs.Common.{◌≡◌, ◌+◌}
use Rattle.rds_briefs.specs.Lives.{lives_in}
use Rattle.rds_briefs.specs.BriefTexts.{bits_text}
use Rattle.rds_briefs.proofs.Putting.{IsPutting}
use Rattle.rds_briefs.proofs.writing.put_bits.Given as goal

abbrev pub invariant-telling : goal.invariant-telling
invariant-telling g l =
    let f = lives_in (g.S.DotSet.contents l.live) l.first.replica in
    record {
      put : IsPutting l.initial.text l.text (bits_text f l.seq l.left) (bits_text f l.first.seq l.count);
      place : l.seq + l.left ≡ l.first.seq + l.count;
    }

abbrev pub decreases-telling : goal.decreases-telling
decreases-telling g l = l.left
