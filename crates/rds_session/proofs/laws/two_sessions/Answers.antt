use Rattle.rds_session.specs.Meeting.{KeepsAtEnd}
use Rattle.rds_session.specs.Session.{So_far, course}
use Rattle.rds_session.proofs.Course.{cut_keeps}
use Rattle.rds_session.proofs.Joined.{hold_joins}
use Rattle.rds_session.proofs.Meeting.{receive_deltas, both_end, both_tell}
use Rattle.rds_session.proofs.laws.two_sessions.Goals as goal

keeps_at_end : KeepsAtEnd
unfolding course
keeps_at_end side kept x = cut_keeps (course side kept (So_far x)).0

pub returns : goal.returns
returns c = record { receive = receive_deltas; end = both_end; forks = both_tell; joins = hold_joins; cut = keeps_at_end }
