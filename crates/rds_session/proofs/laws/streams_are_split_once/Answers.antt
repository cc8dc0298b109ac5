use Rattle.rds_session.proofs.Splitting.{splits_once}
use Rattle.rds_session.proofs.Splits.{all_split}
use Rattle.rds_session.proofs.laws.streams_are_split_once.Goals as goal

pub returns : goal.returns
returns c = record { split = all_split; once = splits_once }
