use Rattle.rds_briefs.proofs.Apart.{briefs_apart}
use Rattle.rds_briefs.proofs.laws.briefs_stand_apart.Goals as goal

pub returns : goal.returns
returns c = briefs_apart
