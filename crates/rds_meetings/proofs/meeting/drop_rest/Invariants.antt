use Rattle.std.proofs.Common.{◌-◌, ◌≤◌}
use Rattle.rds_keep.specs.Parts.{ConsumesAtMost}
use Rattle.rds_session.specs.Reads.{most_heard}
use Rattle.rds_meetings.proofs.meeting.drop_rest.Given as goal

abbrev pub invariant-turns : goal.invariant-turns
invariant-turns g l =
    ConsumesAtMost (g.R.Read.remaining l.fn.reader.inner) (g.R.Read.remaining l.reader.inner) (most_heard (l.fn.reader.budget - l.reader.left)) × (l.reader.left ≤ l.fn.reader.budget)

abbrev pub decreases-turns : goal.decreases-turns
decreases-turns g l = l.reader.left
