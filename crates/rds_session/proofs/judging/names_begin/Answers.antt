use Rattle.rds_session.proofs.Rosters.{names_begin}
use Rattle.rds_session.proofs.judging.names_begin.Goals as goal

pub returns : goal.returns
returns c = names_begin _ _ _ c.requires c.meets.ensures
