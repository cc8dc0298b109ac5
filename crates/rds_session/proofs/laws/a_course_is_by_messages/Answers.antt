use Rattle.rds_session.proofs.Talking.{by_messages, is_quiet}
use Rattle.rds_session.proofs.laws.a_course_is_by_messages.Goals as goal

pub returns : goal.returns
returns c = record { messages = by_messages; quiet = is_quiet }
