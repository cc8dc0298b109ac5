use Rattle.rds_world.proofs.Examples.{accepted, second_has}
use Rattle.rds_world.proofs.laws.lost_dots_are_used_again.Goals as goal

pub returns-clause-accepted : goal.returns-clause-accepted
returns-clause-accepted c = accepted

pub returns-clause-again : goal.returns-clause-again
returns-clause-again c = second_has
