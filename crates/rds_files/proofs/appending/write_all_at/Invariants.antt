use Rattle.std.proofs.Common.{length}
use Rattle.rds_files.proofs.appending.write_all_at.Given as goal

abbrev pub decreases-writing : goal.decreases-writing
decreases-writing g l = length l.rest
