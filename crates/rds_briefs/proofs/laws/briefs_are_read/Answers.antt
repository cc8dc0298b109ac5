use Rattle.rds_briefs.proofs.BriefsRead.{briefs_read}
use Rattle.rds_briefs.proofs.laws.briefs_are_read.Goals as goal

pub returns : goal.returns
returns c = briefs_read
