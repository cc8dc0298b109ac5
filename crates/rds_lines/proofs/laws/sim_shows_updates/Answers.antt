use Rattle.rds_lines.proofs.UpdatesShown.{updates_shown}
use Rattle.rds_lines.proofs.laws.sim_shows_updates.Goals as goal

pub returns : goal.returns
returns c = updates_shown
