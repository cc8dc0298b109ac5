use Rattle.rds_commands.proofs.EditEvents.{merges_taken}
use Rattle.rds_commands.proofs.RosterEvents.{copies_taken}
use Rattle.rds_commands.proofs.laws.copies_are_events.Goals as goal

pub returns-clause-merges : goal.returns-clause-merges
returns-clause-merges c = merges_taken

pub returns-clause-copies : goal.returns-clause-copies
returns-clause-copies c = copies_taken
