use Rattle.std.proofs.Common.{inr}
use Rattle.rds_meetings.proofs.syncing.meet_next.Goals as goal

pub returns-in-Ok-read : goal.returns-in-Ok-read
returns-in-Ok-read g c = inr (
  c.in-Ok-read.ensures.counted,
  inr (record {
    file = c.in-Ok-read.file;
    read = c.in-Ok-read.ensures.read;
    held = _;
    meets = c.meet.ensures;
  }),
)
