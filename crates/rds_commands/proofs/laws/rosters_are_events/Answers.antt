use Rattle.rds_commands.proofs.RosterEvents.{growths_grown, inits_start}
use Rattle.rds_commands.proofs.laws.rosters_are_events.Goals as goal

pub returns-clause-inits : goal.returns-clause-inits
returns-clause-inits c = inits_start

pub returns-clause-grows : goal.returns-clause-grows
returns-clause-grows c = growths_grown
