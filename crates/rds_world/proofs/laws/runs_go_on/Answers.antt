use Rattle.rds_world.proofs.Runs.{run_on, accepted_on}
use Rattle.rds_world.proofs.laws.runs_go_on.Goals as goal

pub returns-clause-run : goal.returns-clause-run
returns-clause-run c = run_on

pub returns-clause-accepted : goal.returns-clause-accepted
returns-clause-accepted c = accepted_on
