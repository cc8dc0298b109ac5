use Rattle.rds_commands.proofs.LevelForks.{level_forks}
use Rattle.rds_commands.proofs.laws.level_forks_are_told.Goals as goal

pub returns : goal.returns
returns c = level_forks
