use Rattle.std.specs.Int.{w32}
use Rattle.rds_feeds.proofs.Lists.{met_listed}
use Rattle.rds_feeds.proofs.meeting.meeting_rows.Goals as goal

pub returns : goal.returns
returns g c = rw c.new.ensures.items (met_listed g.R.MeetingReader.reader g.R.MeetingReader.met_by c.args.reader w32)
