use Rattle.rds_questions.proofs.Meeting.{deltas_are_least, is_brought, one_response}
use Rattle.rds_questions.proofs.laws.responses_are_received.Goals as goal

pub returns : goal.returns
returns c = record { one = one_response; received = is_brought; least = deltas_are_least }
