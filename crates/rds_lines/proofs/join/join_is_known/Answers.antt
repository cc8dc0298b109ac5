use Rattle.rds_lines.proofs.JoinedOnce.{joined_once, answers_spelled}
use Rattle.rds_lines.proofs.join.join_is_known.Goals as goal

pub returns : goal.returns
returns c = record { once = joined_once; answers = answers_spelled }
